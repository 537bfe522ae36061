use Rattle.vga_planes.proofs.SavedLemmas.{AreJoined}
use Rattle.vga_planes.proofs.planes.saved.join_planes.Given as goal

abbrev pub invariant-loop-i : goal.invariant-loop-i
invariant-loop-i l = AreJoined l.words (record { plane0 = l.plane0; plane1 = l.plane1; plane2 = l.plane2; plane3 = l.plane3 }) l.i
