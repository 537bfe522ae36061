use Rattle.std.proofs.Common.{arith}
use Rattle.std.proofs.lemmas.Grind.{common_steps}
use Rattle.vga_bits.proofs.bits.is_set.Goals as goal

pub returns : goal.returns
returns c = grind (arith, common_steps)
