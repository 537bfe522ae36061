use Rattle.std.proofs.Common.{rules}
use Rattle.vga_show.proofs.plane.push_plane_bytes.Goals as goal

pub returns-clause-items : goal.returns-clause-items
returns-clause-items c = search rules

pub returns-clause-len : goal.returns-clause-len
returns-clause-len c = search rules
