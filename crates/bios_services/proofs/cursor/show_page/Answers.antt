use Rattle.std.proofs.Common.{arith, rules}
use Rattle.bios_services.proofs.PlanRuns.{run_bind}
use Rattle.bios_services.specs.Cursor.{show_page_plan}
use Rattle.bios_services.proofs.cursor.show_page.Goals as goal

pub returns-clause-answer : goal.returns-clause-answer
unfolding show_page_plan
returns-clause-answer c = grind (arith, run_bind)

pub returns-clause-stays : goal.returns-clause-stays
unfolding show_page_plan
returns-clause-stays c = search rules
