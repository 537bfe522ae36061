use Rattle.std.proofs.Common.{rules}
use Rattle.vga_bits.specs.Bytes.{zeros}
use Rattle.vga_planes.proofs.planes.zeros.Goals as goal

pub returns-in-Ok-clause-items : goal.returns-in-Ok-clause-items
unfolding zeros
returns-in-Ok-clause-items c = search rules

pub returns-in-Ok-clause-len : goal.returns-in-Ok-clause-len
unfolding zeros
returns-in-Ok-clause-len c = search rules
