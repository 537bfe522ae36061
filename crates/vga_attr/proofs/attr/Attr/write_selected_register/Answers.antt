use Rattle.std.proofs.Common.{rules}
use Rattle.vga_attr.proofs.attr.Attr.write_selected_register.Goals as goal

pub returns-then-i-ge-REGISTERS-clause-refused : goal.returns-then-i-ge-REGISTERS-clause-refused
returns-then-i-ge-REGISTERS-clause-refused c = search rules

pub returns-then-i-ge-REGISTERS-clause-ok : goal.returns-then-i-ge-REGISTERS-clause-ok
returns-then-i-ge-REGISTERS-clause-ok c = search rules

pub returns-else-not-is_palette_shown-clause-ok : goal.returns-else-not-is_palette_shown-clause-ok
returns-else-not-is_palette_shown-clause-ok c = search rules
