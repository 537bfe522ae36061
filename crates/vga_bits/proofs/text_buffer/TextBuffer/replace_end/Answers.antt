use Rattle.std.proofs.Common.{arith, rules}
use Rattle.std.proofs.lemmas.Grind.{common_steps}
use Rattle.vga_bits.proofs.text_buffer.TextBuffer.replace_end.Goals as goal

pub returns-then-at-text-clause-items : goal.returns-then-at-text-clause-items
returns-then-at-text-clause-items c = grind (arith, common_steps)

pub returns-then-at-text-clause-len : goal.returns-then-at-text-clause-len
returns-then-at-text-clause-len c = grind (arith, common_steps)

pub returns-else-at-text-clause-items : goal.returns-else-at-text-clause-items
returns-else-at-text-clause-items c = search rules

pub returns-else-at-text-clause-len : goal.returns-else-at-text-clause-len
returns-else-at-text-clause-len c = search rules
