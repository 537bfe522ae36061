use Rattle.std.proofs.Common.{rules}
use Rattle.vga_c.proofs.dumps.is_plane_part.Goals as goal

pub returns-then-count-le256 : goal.returns-then-count-le256
returns-then-count-le256 c = search rules

pub returns-else-count-le256 : goal.returns-else-count-le256
returns-else-count-le256 c = search rules
