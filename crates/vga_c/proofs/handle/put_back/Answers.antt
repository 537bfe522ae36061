use Rattle.std.proofs.Common.{◌∙◌, ap}
use Rattle.vga_script.specs.declared.step.Step.TheVariants.{Advance}
use Rattle.vga_run.specs.declared.machine.Machine.{Machine}
use Rattle.vga_run.specs.Step.{after_step}
use Rattle.vga_c.specs.Handle.{HandleState, machine_after_owed_dots}
use Rattle.vga_c.proofs.handle.put_back.Goals as goal

pub returns-clause-machine : goal.returns-clause-machine
unfolding machine_after_owed_dots
returns-clause-machine c =
    ap (λ (m : Machine). after_step m (Advance c.card.inside.owed)) (c.of_parts-card-inside.ensures.1 ∙ c.of.ensures)
    ∙ ap (λ (h : HandleState). after_step c.args.machine.value (Advance h.owed)) c.card.view_is
