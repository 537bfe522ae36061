use Rattle.std.proofs.Common.{rules}
use Rattle.vga_bits.proofs.text_buffer.TextBuffer.truncate.Goals as goal

pub returns-clause-items : goal.returns-clause-items
returns-clause-items c = search rules

pub returns-clause-len : goal.returns-clause-len
returns-clause-len c = search rules
