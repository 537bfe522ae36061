use Rattle.std.proofs.Common.{arith, rules}
use Rattle.std.proofs.lemmas.Grind.{common_steps}
use Rattle.vga_run.proofs.machine.saved.has_version.Goals as goal

pub returns-then-bytes-gt4 : goal.returns-then-bytes-gt4
returns-then-bytes-gt4 c = search rules

pub returns-else-bytes-gt4 : goal.returns-else-bytes-gt4
returns-else-bytes-gt4 c = grind (arith, common_steps)
