use Rattle.std.proofs.Common.{rules}
use Rattle.vga_bits.proofs.reg_file.RegFile.write.Goals as goal

pub returns-clause-masks : goal.returns-clause-masks
returns-clause-masks c = search rules

pub returns-clause-values : goal.returns-clause-values
returns-clause-values c = search rules
