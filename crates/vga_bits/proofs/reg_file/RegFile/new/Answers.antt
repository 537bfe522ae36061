use Rattle.std.proofs.Common.{rules}
use Rattle.vga_bits.proofs.reg_file.RegFile.new.Goals as goal

pub returns-clause-masks : goal.returns-clause-masks
returns-clause-masks c = search rules

pub returns-clause-zeros : goal.returns-clause-zeros
returns-clause-zeros c = search rules
