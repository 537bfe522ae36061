use Rattle.std.proofs.Common.{rules}
use Rattle.bios_services.proofs.glyph_load.GlyphLoad.of_registers.Goals as goal

pub returns-then-high-ne17 : goal.returns-then-high-ne17
returns-then-high-ne17 c = search rules

pub returns-in-16 : goal.returns-in-16
returns-in-16 c = search rules

pub returns-in-17 : goal.returns-in-17
returns-in-17 c = search rules

pub returns-in-18 : goal.returns-in-18
returns-in-18 c = search rules

pub returns-in-20 : goal.returns-in-20
returns-in-20 c = search rules

pub returns-in_default : goal.returns-in_default
returns-in_default c = search rules
