use Rattle.std.proofs.Common.{arith}
use Rattle.bios_services.proofs.PlanRuns.{run_bind}
use Rattle.bios_services.specs.ModeSet.{write_registers_plan}
use Rattle.bios_services.proofs.mode_set.write_registers.Goals as goal

pub returns : goal.returns
unfolding write_registers_plan
returns c = grind (arith, run_bind)
