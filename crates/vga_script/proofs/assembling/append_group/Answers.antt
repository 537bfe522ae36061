use Rattle.std.proofs.Common.{option_copied}
use Rattle.vga_script.proofs.AssembleLemmas.{group_faults, group_of_line}
use Rattle.vga_script.proofs.assembling.append_group.Goals as goal

-- a block has a fault
pub returns-in-Some-clause-fault : goal.returns-in-Some-clause-fault
returns-in-Some-clause-fault c =
    group_faults c.args.version c.args.number c.args.text.now c.first_line.result.0.now (option_copied c.first_line.result.1) c.in-Some.count
    c.append_repeat.result c.in-Some.ensures.found.0 c.first_line.ensures.line c.in-Some.ensures.found.1
    c.append_repeat.ensures.fault

-- a line of a step, or of no word
pub returns-in-Ok-clause-found : goal.returns-in-Ok-clause-found
returns-in-Ok-clause-found c =
    group_of_line c.args.version c.args.number c.args.text.now c.first_line.result.0.now _ _ (option_copied c.first_line.result.1) c.in-Ok.len
    c.first_line.ensures.line c.in-Ok.ensures.found
