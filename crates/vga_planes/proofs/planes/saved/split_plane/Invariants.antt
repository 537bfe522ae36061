use Rattle.std.proofs.Common.{◌≡◌, take}
use Rattle.vga_bits.specs.Four.{of_plane}
use Rattle.vga_planes.specs.PlaneWords.{planes_of_words}
use Rattle.vga_planes.proofs.planes.saved.split_plane.Given as goal

abbrev pub invariant-loop-i : goal.invariant-loop-i
invariant-loop-i l = take l.i l.out ≡ take l.i (of_plane (planes_of_words l.words) l.plane)
