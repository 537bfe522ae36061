use Rattle.std.proofs.Common.{rules}
use Rattle.vga_bits.proofs.saved.word_at.Goals as goal

pub returns : goal.returns
returns c = search rules
