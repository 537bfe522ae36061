use Rattle.std.proofs.Common.{rules}
use Rattle.vga_bits.proofs.reg_file.RegFile.read.Goals as goal

pub returns : goal.returns
returns c = search rules
