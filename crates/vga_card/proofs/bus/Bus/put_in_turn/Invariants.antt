use Rattle.std.proofs.Common.{◌≡◌, ◌-◌}
use Rattle.vga_host.specs.Memory.Runs.{even_or_odd_byte}
use Rattle.vga_card.specs.Bus.{after_puts}
use Rattle.vga_card.proofs.bus.Bus.put_in_turn.Given as goal

-- what the writes from here on leave is what all leave
abbrev pub invariant-loop-i : goal.invariant-loop-i
invariant-loop-i g l =
    after_puts g.Self.Bus.meaning l.first (even_or_odd_byte l.even l.odd) (l.n - l.i) l.i l.self
    ≡ after_puts g.Self.Bus.meaning l.first (even_or_odd_byte l.even l.odd) l.n 0 l.fn.self
