use Rattle.std.proofs.Common.{arith, rules}
use Rattle.vga_show.proofs.TextLemmas.{joins}
use Rattle.vga_show.specs.Regs.{attr_line}
use Rattle.vga_show.proofs.regs.push_attr.Goals as goal

pub returns-clause-items : goal.returns-clause-items
unfolding attr_line
returns-clause-items c = grind (arith, joins)

pub returns-clause-len : goal.returns-clause-len
unfolding attr_line
returns-clause-len c = search rules
