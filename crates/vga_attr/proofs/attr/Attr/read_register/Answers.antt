use Rattle.std.proofs.Common.{rules}
use Rattle.vga_attr.proofs.attr.Attr.read_register.Goals as goal

pub returns-then-i-ge-REGISTERS-clause-refused : goal.returns-then-i-ge-REGISTERS-clause-refused
returns-then-i-ge-REGISTERS-clause-refused c = search rules

pub returns-then-i-ge-REGISTERS-clause-ok : goal.returns-then-i-ge-REGISTERS-clause-ok
returns-then-i-ge-REGISTERS-clause-ok c = search rules

pub returns-clause-refused : goal.returns-clause-refused
returns-clause-refused c = search rules

pub returns-clause-ok : goal.returns-clause-ok
returns-clause-ok c = search rules
