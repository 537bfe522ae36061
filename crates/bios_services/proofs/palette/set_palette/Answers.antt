use Rattle.std.proofs.Common.{arith}
use Rattle.bios_services.proofs.PlanRuns.{run_bind}
use Rattle.bios_services.specs.Palette.{set_palette_plan}
use Rattle.bios_services.proofs.palette.set_palette.Goals as goal

pub returns : goal.returns
unfolding set_palette_plan
returns c = grind (arith, run_bind)
