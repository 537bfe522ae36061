use Rattle.std.proofs.Common.{◌∙◌, subst}
use Rattle.vga_run.specs.declared.machine.Machine.{Machine}
use Rattle.vga_c.specs.Rebuilding.{GivesRebuilding, rebuilding_output}
use Rattle.vga_c.proofs.rebuilding.zak_rebuild.Goals as goal

-- the machine that is rebuilt is the card's
pub returns-clause-rebuilt : goal.returns-clause-rebuilt
returns-clause-rebuilt c = λ is_open.
    subst
    (λ (m : Machine). GivesRebuilding m
    (rebuilding_output c.args.script.now c.args.len.now c.args.dots_other.now)
    (rebuilding_output c.rebuild-status.new.script c.rebuild-status.new.len c.rebuild-status.new.dots_other)
    c.rebuild-status.result)
    (c.as_mut-machine.ensures.value ∙ c.take-held.ensures.machine)
    c.rebuild-status.ensures
