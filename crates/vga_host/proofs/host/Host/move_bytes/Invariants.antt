use Rattle.std.proofs.Common.{◌≡◌, ◌-◌}
use Rattle.vga_host.specs.Memory.Runs.{after_moves}
use Rattle.vga_host.specs.Memory.Access.{IsAccess}
use Rattle.vga_host.proofs.host.Host.move_bytes.Given as goal

-- what the registers say stays, and what the moves from here on leave is what all leave
abbrev pub invariant-loop-i : goal.invariant-loop-i
invariant-loop-i l =
    IsAccess l.access l.self
    × (after_moves l.misc l.from l.to (l.n - l.i) l.i l.self ≡ after_moves l.misc l.from l.to l.n 0 l.fn.self)
