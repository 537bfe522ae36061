use Rattle.std.proofs.Common.{rules}
use Rattle.vga_bits.proofs.bytes.Bytes.copy.Goals as goal

pub returns-in-Ok-clause-copied : goal.returns-in-Ok-clause-copied
returns-in-Ok-clause-copied c = search rules
