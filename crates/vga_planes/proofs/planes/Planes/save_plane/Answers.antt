use Rattle.std.proofs.Common.{arith}
use Rattle.std.proofs.lemmas.Grind.{common_steps}
use Rattle.std.proofs.lemmas.Slice.{drop-put_mid}
use Rattle.vga_planes.proofs.SavedLemmas.{plane_len}
use Rattle.vga_planes.proofs.planes.Planes.save_plane.Goals as goal

pub returns-clause-put : goal.returns-clause-put
returns-clause-put c = grind (arith, common_steps, drop-put_mid, plane_len c.self.inside.words.items c.args.plane c.requires.plane)
