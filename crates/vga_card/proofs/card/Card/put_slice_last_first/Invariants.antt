use Rattle.std.proofs.Common.{◌≡◌, ◌-◌}
use Rattle.std.specs.Prelude.{slice_index}
use Rattle.vga_card.specs.Bus.{card_meaning}
use Rattle.vga_card.specs.Transfers.{after_puts_last_first}
use Rattle.vga_card.proofs.card.Card.put_slice_last_first.Given as goal

-- what the writes that are left leave is what all leave
abbrev pub invariant-loop-i : goal.invariant-loop-i
invariant-loop-i l =
    after_puts_last_first card_meaning l.first (slice_index l.bytes) (l.n - l.i) l.self
    ≡ after_puts_last_first card_meaning l.first (slice_index l.bytes) l.n l.fn.self
