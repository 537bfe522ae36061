use Rattle.std.proofs.Common.{◌≡◌, ◌-◌}
use Rattle.vga_card.specs.Bus.{card_meaning}
use Rattle.vga_card.specs.Transfers.{after_moves_last_first}
use Rattle.vga_card.proofs.card.Card.move_bytes_last_first.Given as goal

-- what the moves that are left leave is what all leave
abbrev pub invariant-loop-i : goal.invariant-loop-i
invariant-loop-i l =
    after_moves_last_first card_meaning l.from l.to (l.kept - l.i) l.self ≡ after_moves_last_first card_meaning l.from l.to l.kept l.fn.self
