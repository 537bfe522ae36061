use Rattle.std.proofs.Common.{arith}
use Rattle.vga_bits.proofs.BitLemmas.{field_mask}
use Rattle.vga_bits.proofs.reg_file.RegFile.field.Goals as goal

pub returns : goal.returns
returns c = grind (arith, field_mask)
