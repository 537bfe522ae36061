use Rattle.std.proofs.Common.{rules}
use Rattle.vga_planes.proofs.latch.Latch.byte.Goals as goal

pub returns : goal.returns
returns c = search rules
