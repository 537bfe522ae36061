use Rattle.std.proofs.Common.{rules}
use Rattle.vga_bits.proofs.saved.low_byte.Goals as goal

pub returns : goal.returns
returns c = search rules
