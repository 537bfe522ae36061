use Rattle.std.proofs.Common.{◌≡◌, ◌<◌, ◌+◌, ◌-◌, ℕ, length, slice_index}
use Rattle.vga_host.specs.Memory.Runs.{after_gets, byte_read_or_ff}
use Rattle.vga_host.specs.Memory.Access.{IsAccess}
use Rattle.vga_host.proofs.RunLemmas.{with_latches}
use Rattle.vga_host.proofs.host.Host.read_one_by_one.Given as goal

-- latches alone are others, what the reads from here on leave is what all leave, and the bytes so far are read
abbrev pub invariant-loop-i : goal.invariant-loop-i
invariant-loop-i l =
    IsAccess l.access l.self
    × (with_latches l.fn.self l.self.latches ≡ l.self)
    × (after_gets l.misc l.first (length l.fn.bytes - l.i) l.i l.self ≡ after_gets l.misc l.first (length l.fn.bytes) 0 l.fn.self)
    × (length l.bytes ≡ length l.fn.bytes)
    × ((k : ℕ) → k < l.i → slice_index l.bytes k ≡ byte_read_or_ff l.fn.self l.misc (l.first + k))
