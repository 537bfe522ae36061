use Rattle.std.proofs.Common.{◌+◌, List, inl, subst, take}
use Rattle.vga_script.specs.declared.step.Step.{Step}
use Rattle.vga_c.specs.Steps.{AreStepsTakenOrAllocationFails, steps_output_from_parts}
use Rattle.vga_c.proofs.steps.run_with_valid_bios_data.Goals as goal

-- the steps that are taken are those after the first
pub returns-in-Ok-clause-run : goal.returns-in-Ok-clause-run
returns-in-Ok-clause-run c =
    let before = steps_output_from_parts c.args.out.now c.args.len.now c.args.taken.now c.args.place.now in
    let after = steps_output_from_parts c.take_steps.new.out c.take_steps.new.len c.take_steps.new.taken c.args.place.now in
    inl (
      c.in-Ok.ensures.found.0,
      (
        c.in-Ok.all,
        c.in-Ok.ensures.found.1,
        subst
            (λ (l : List Step). AreStepsTakenOrAllocationFails (take c.args.most l) (c.args.first + 1) c.args.machine.now c.take_steps.new.machine before after
            c.take_steps.result)
            c.pass_over.ensures
            (c.take_steps.ensures.taken c.args.place.now),
      ),
    )
