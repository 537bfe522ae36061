use Rattle.std.proofs.Common.{◌≡◌, Some, arith, rules, length}
use Rattle.bios_modes.specs.Heights.{mode_row_at_height}
use Rattle.bios_services.proofs.BoundLemmas.{begins_valid_at, port_small, there_of}
use Rattle.bios_services.proofs.PlanRuns.{run_bind}
use Rattle.bios_services.specs.Service.{load_if_height_exists}
use Rattle.bios_services.proofs.interrupt.load_allowed_glyphs.Goals as goal

pub returns-in_default-clause-answer : goal.returns-in_default-clause-answer
unfolding load_if_height_exists
returns-in_default-clause-answer c = search rules

pub returns-in_default-clause-valid : goal.returns-in_default-clause-valid
unfolding load_if_height_exists
returns-in_default-clause-valid c = search rules

pub returns-clause-answer : goal.returns-clause-answer
unfolding load_if_height_exists
returns-clause-answer c = grind (arith, run_bind, begins_valid_at, there_of, port_small)

pub returns-clause-valid : goal.returns-clause-valid
unfolding load_if_height_exists
returns-clause-valid c = search rules

pub write-requires-clause-there : goal.write-requires-clause-there
write-requires-clause-there g c =
    let row : mode_row_at_height c.args.bda.now.mode c.args.load.height ≡ Some c.in-Some.row = grind arith in
    there_of c.args.load c.args.bda.now.mode (length c.args.block.now) c.in-Some.row c.requires.allowed row
