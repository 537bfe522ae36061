use Rattle.std.proofs.Common.{◌≡◌, ◌+◌, ◌<◌, ℕ, length}
use Rattle.std.specs.Prelude.{slice_index}
use Rattle.vga_planes.specs.Planes.{byte_at}
use Rattle.vga_c.proofs.state.copy_plane.Given as goal

-- the bytes so far are those of the plane
abbrev pub invariant-loop-i : goal.invariant-loop-i
invariant-loop-i l = (length l.bytes ≡ length l.initial.bytes)
    × ((k : ℕ) → k < l.i → slice_index l.bytes k ≡ byte_at l.planes l.plane (l.offset + k))
