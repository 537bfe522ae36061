use Rattle.std.proofs.Common.{arith, rules}
use Rattle.bios_services.proofs.PlanRuns.{run_bind}
use Rattle.bios_services.specs.Teletype.{write_and_advance_plan, type_character_plan}
use Rattle.bios_services.proofs.teletype.type_character.Goals as goal

pub returns-in-7-clause-position : goal.returns-in-7-clause-position
unfolding type_character_plan write_and_advance_plan
returns-in-7-clause-position c = search rules

pub returns-in-7-clause-row : goal.returns-in-7-clause-row
unfolding type_character_plan write_and_advance_plan
returns-in-7-clause-row c = search rules

pub returns-then-position-eq0-clause-position : goal.returns-then-position-eq0-clause-position
unfolding type_character_plan write_and_advance_plan
returns-then-position-eq0-clause-position c = search rules

pub returns-then-position-eq0-clause-row : goal.returns-then-position-eq0-clause-row
unfolding type_character_plan write_and_advance_plan
returns-then-position-eq0-clause-row c = search rules

pub returns-else-position-eq0-clause-position : goal.returns-else-position-eq0-clause-position
unfolding type_character_plan write_and_advance_plan
returns-else-position-eq0-clause-position c = search rules

pub returns-else-position-eq0-clause-row : goal.returns-else-position-eq0-clause-row
unfolding type_character_plan write_and_advance_plan
returns-else-position-eq0-clause-row c = search rules

pub returns-in-10-clause-position : goal.returns-in-10-clause-position
unfolding type_character_plan write_and_advance_plan
returns-in-10-clause-position c = search rules

pub returns-in-10-clause-row : goal.returns-in-10-clause-row
unfolding type_character_plan write_and_advance_plan
returns-in-10-clause-row c = search rules

pub returns-in-13-clause-position : goal.returns-in-13-clause-position
unfolding type_character_plan write_and_advance_plan
returns-in-13-clause-position c = search rules

pub returns-in-13-clause-row : goal.returns-in-13-clause-row
unfolding type_character_plan write_and_advance_plan
returns-in-13-clause-row c = search rules

pub returns-in_default-clause-position : goal.returns-in_default-clause-position
unfolding type_character_plan write_and_advance_plan
returns-in_default-clause-position c = grind (arith, run_bind)

pub returns-in_default-clause-row : goal.returns-in_default-clause-row
unfolding type_character_plan write_and_advance_plan
returns-in_default-clause-row c = search rules
