use Rattle.std.proofs.Common.{arith, rules}
use Rattle.std.proofs.lemmas.Grind.{common_steps}
use Rattle.vga_script.proofs.items.behind_steps.Goals as goal

pub returns-then-first-eq-END-clause-good : goal.returns-then-first-eq-END-clause-good
returns-then-first-eq-END-clause-good c = search rules

pub returns-then-first-eq-END-clause-stop : goal.returns-then-first-eq-END-clause-stop
returns-then-first-eq-END-clause-stop c = grind (arith, common_steps)

pub returns-clause-good : goal.returns-clause-good
returns-clause-good c = search rules

pub returns-clause-stop : goal.returns-clause-stop
returns-clause-stop c = grind (arith, common_steps)
