use Rattle.std.proofs.Common.{◌∙◌, ap}
use Rattle.vga_script.specs.declared.step.Step.TheVariants.{Advance}
use Rattle.vga_run.specs.declared.machine.Machine.{Machine}
use Rattle.vga_run.specs.Step.{after_step}
use Rattle.vga_c.specs.Handle.{machine_after_owed_dots}
use Rattle.vga_c.proofs.handle.give_at_line.Goals as goal

pub returns-clause-machine : goal.returns-clause-machine
unfolding machine_after_owed_dots
returns-clause-machine c =
    let given = c.of_parts.ensures in
    (λ j. after_step (given.kept j).machine (Advance (given.owed j)))
    ∙ ap (λ (m : Machine). after_step m (Advance c.args.owed)) (c.of_parts-sealed.ensures.1 ∙ c.of.ensures)
