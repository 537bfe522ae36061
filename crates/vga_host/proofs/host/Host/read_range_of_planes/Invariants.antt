use Rattle.std.proofs.Common.{◌≡◌, ◌<◌, ◌+◌, ℕ, length, slice_index}
use Rattle.vga_host.specs.Memory.Runs.{byte_read_or_ff}
use Rattle.vga_host.proofs.host.Host.read_range_of_planes.Given as goal

-- the bytes so far are read
abbrev pub invariant-loop-i : goal.invariant-loop-i
invariant-loop-i l =
    (length l.bytes ≡ length l.fn.bytes)
    × ((k : ℕ) → k < l.i → slice_index l.bytes k ≡ byte_read_or_ff l.self l.misc (l.first + k))
