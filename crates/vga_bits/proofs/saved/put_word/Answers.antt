use Rattle.std.proofs.Common.{rules}
use Rattle.vga_bits.proofs.saved.put_word.Goals as goal

pub returns-clause-put : goal.returns-clause-put
returns-clause-put c = search rules

pub returns-clause-end : goal.returns-clause-end
returns-clause-end c = search rules
