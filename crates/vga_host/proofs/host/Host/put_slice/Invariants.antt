use Rattle.std.proofs.Common.{◌≡◌, ◌-◌, length, slice_index}
use Rattle.vga_host.specs.Memory.Runs.{after_puts}
use Rattle.vga_host.specs.Memory.Access.{IsAccess}
use Rattle.vga_host.proofs.host.Host.put_slice.Given as goal

-- what the registers say stays, and what the writes from here on leave is what all leave
abbrev pub invariant-loop-i : goal.invariant-loop-i
invariant-loop-i l =
    IsAccess l.access l.self
    × (after_puts l.misc l.first (slice_index l.bytes) (l.n - l.i) l.i l.self
    ≡ after_puts l.misc l.first (slice_index l.bytes) (length l.bytes) 0 l.fn.self)
