use Rattle.std.proofs.Common.{rules}
use Rattle.bios_services.specs.Cursor.{cursor_type_plan}
use Rattle.bios_services.proofs.cursor.set_cursor_type.Goals as goal

pub returns-clause-answer : goal.returns-clause-answer
unfolding cursor_type_plan
returns-clause-answer c = search rules

pub returns-clause-stays : goal.returns-clause-stays
unfolding cursor_type_plan
returns-clause-stays c = search rules
