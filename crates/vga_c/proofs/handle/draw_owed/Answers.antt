use Rattle.std.proofs.Common.{◌∙◌, ap}
use Rattle.vga_script.specs.declared.step.Step.TheVariants.{Advance}
use Rattle.vga_run.specs.declared.machine.Machine.{Machine}
use Rattle.vga_run.specs.Step.{after_step}
use Rattle.vga_c.specs.Handle.{HandleState, machine_after_owed_dots}
use Rattle.vga_c.proofs.handle.draw_owed.Goals as goal

pub returns-clause-machine : goal.returns-clause-machine
unfolding machine_after_owed_dots
returns-clause-machine c =
    c.give.ensures.machine ∙ c.advance.ensures.after
    ∙ ap (λ (m : Machine). after_step m (Advance c.card.inside.owed)) (c.as_mut.ensures.value ∙ c.take_out-held.ensures.kept)
    ∙ ap (λ (h : HandleState). after_step c.args.card.now.kept.machine (Advance h.owed)) c.card.view_is
