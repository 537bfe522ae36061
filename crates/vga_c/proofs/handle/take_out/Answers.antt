use Rattle.std.proofs.Common.{◌∙◌, ap}
use Rattle.vga_script.specs.declared.step.Step.TheVariants.{Advance}
use Rattle.vga_run.specs.declared.machine.Machine.{Machine}
use Rattle.vga_run.specs.Step.{after_step}
use Rattle.vga_c.specs.declared.sealed.Sealed.{Sealed}
use Rattle.vga_c.specs.Handle.{HandleState, machine_after_owed_dots}
use Rattle.vga_c.proofs.handle.take_out.Goals as goal

pub returns-clause-machine : goal.returns-clause-machine
unfolding machine_after_owed_dots
returns-clause-machine c =
    ap (λ (m : Machine). after_step m (Advance c.args.card.now.owed))
    (c.into_box.ensures ∙ c.into_parts.ensures ∙ ap (λ (s : Sealed). s.machine) c.replace-sealed.ensures.value ∙ ap (λ (h : HandleState). h.kept.machine) c.card.view_is)
