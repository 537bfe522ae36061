use Rattle.std.proofs.Common.{arith, rules}
use Rattle.bios_services.proofs.PlanRuns.{run_bind}
use Rattle.bios_services.specs.Strings.{string_plan}
use Rattle.bios_services.proofs.strings.StringCall.write.Goals as goal

pub returns-then-self-clause-answer : goal.returns-then-self-clause-answer
unfolding string_plan
returns-then-self-clause-answer c = grind (arith, run_bind)

pub returns-then-self-clause-stays : goal.returns-then-self-clause-stays
unfolding string_plan
returns-then-self-clause-stays c = search rules

pub returns-else-self-clause-answer : goal.returns-else-self-clause-answer
unfolding string_plan
returns-else-self-clause-answer c = grind (arith, run_bind)

pub returns-else-self-clause-stays : goal.returns-else-self-clause-stays
unfolding string_plan
returns-else-self-clause-stays c = search rules
