use Rattle.std.proofs.Common.{rules}
use Rattle.vga_bits.proofs.reg_file.RegFile.values.Goals as goal

pub returns : goal.returns
returns c = search rules
