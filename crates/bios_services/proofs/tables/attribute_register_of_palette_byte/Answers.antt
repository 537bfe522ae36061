use Rattle.std.proofs.Common.{rules}
use Rattle.bios_services.proofs.tables.attribute_register_of_palette_byte.Goals as goal

pub returns-then-i-eq16-clause-value : goal.returns-then-i-eq16-clause-value
returns-then-i-eq16-clause-value c = search rules

pub returns-then-i-eq16-clause-small : goal.returns-then-i-eq16-clause-small
returns-then-i-eq16-clause-small c = search rules

pub returns-else-i-eq16-clause-value : goal.returns-else-i-eq16-clause-value
returns-else-i-eq16-clause-value c = search rules

pub returns-else-i-eq16-clause-small : goal.returns-else-i-eq16-clause-small
returns-else-i-eq16-clause-small c = search rules
