use Rattle.std.proofs.Common.{rules}
use Rattle.vga_attr.proofs.attr.Attr.write.Goals as goal

pub returns-clause-refused : goal.returns-clause-refused
returns-clause-refused c = search rules

pub returns-clause-ok : goal.returns-clause-ok
returns-clause-ok c = search rules
