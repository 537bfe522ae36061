use Rattle.std.proofs.Common.{rules}
use Rattle.vga_bits.proofs.bytes.Bytes.set.Goals as goal

pub returns : goal.returns
returns c = search rules
