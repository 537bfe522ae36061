use Rattle.std.proofs.Common.{arith, rules}
use Rattle.bios_services.proofs.PlanRuns.{run_bind}
use Rattle.bios_services.specs.Colours.{colours_plan}
use Rattle.bios_services.proofs.colours.perform_colours.Goals as goal

pub returns-in-SetRegister : goal.returns-in-SetRegister
unfolding colours_plan
returns-in-SetRegister c = grind (arith, run_bind)

pub returns-in-SetOverscan : goal.returns-in-SetOverscan
unfolding colours_plan
returns-in-SetOverscan c = grind (arith, run_bind)

pub returns-in-SetPalette : goal.returns-in-SetPalette
unfolding colours_plan
returns-in-SetPalette c = grind (arith, run_bind)

pub returns-in-SetBlinking : goal.returns-in-SetBlinking
unfolding colours_plan
returns-in-SetBlinking c = grind (arith, run_bind)

pub returns-in-ReadRegister : goal.returns-in-ReadRegister
unfolding colours_plan
returns-in-ReadRegister c = search rules

pub returns-in-ReadOverscan : goal.returns-in-ReadOverscan
unfolding colours_plan
returns-in-ReadOverscan c = search rules

pub returns-in-SetEntry : goal.returns-in-SetEntry
unfolding colours_plan
returns-in-SetEntry c = grind (arith, run_bind)

pub returns-in-SetEntries : goal.returns-in-SetEntries
unfolding colours_plan
returns-in-SetEntries c = grind (arith, run_bind)

pub returns-in-ReadEntry : goal.returns-in-ReadEntry
unfolding colours_plan
returns-in-ReadEntry c = search rules

pub returns-in-SetMask : goal.returns-in-SetMask
unfolding colours_plan
returns-in-SetMask c = search rules

pub returns-in-ReadMask : goal.returns-in-ReadMask
unfolding colours_plan
returns-in-ReadMask c = search rules
