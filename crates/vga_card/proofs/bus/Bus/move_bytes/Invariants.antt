use Rattle.std.proofs.Common.{◌≡◌, ◌-◌}
use Rattle.vga_card.specs.Bus.{after_moves}
use Rattle.vga_card.proofs.bus.Bus.move_bytes.Given as goal

-- what the moves from here on leave is what all leave
abbrev pub invariant-loop-i : goal.invariant-loop-i
invariant-loop-i g l =
    after_moves g.Self.Bus.meaning l.from l.to (l.n - l.i) l.i l.self ≡ after_moves g.Self.Bus.meaning l.from l.to l.n 0 l.fn.self
