use Rattle.std.proofs.Common.{rules}
use Rattle.vga_run.specs.Step.{after_step, answer_to}
use Rattle.vga_run.proofs.report.take_and_write_step.Goals as goal

pub returns-in-Show-clause-text : goal.returns-in-Show-clause-text
unfolding answer_to after_step
returns-in-Show-clause-text c = search rules

pub returns-in-Show-clause-after : goal.returns-in-Show-clause-after
unfolding answer_to after_step
returns-in-Show-clause-after c = search rules

pub returns-in-Int-clause-text : goal.returns-in-Int-clause-text
unfolding answer_to after_step
returns-in-Int-clause-text c = search rules

pub returns-in-Int-clause-number : goal.returns-in-Int-clause-number
unfolding answer_to after_step
returns-in-Int-clause-number c = search rules

pub returns-in-Int-clause-after : goal.returns-in-Int-clause-after
unfolding answer_to after_step
returns-in-Int-clause-after c = search rules

pub returns-in-Int-clause-either : goal.returns-in-Int-clause-either
unfolding answer_to after_step
returns-in-Int-clause-either c = search rules

pub returns-in-Int-clause-valid : goal.returns-in-Int-clause-valid
unfolding answer_to after_step
returns-in-Int-clause-valid c = search rules

pub returns-in-Frame-clause-text : goal.returns-in-Frame-clause-text
unfolding answer_to after_step
returns-in-Frame-clause-text c = search rules

pub returns-in-Frame-clause-number : goal.returns-in-Frame-clause-number
unfolding answer_to after_step
returns-in-Frame-clause-number c = search rules

pub returns-in-Frame-clause-after : goal.returns-in-Frame-clause-after
unfolding answer_to after_step
returns-in-Frame-clause-after c = search rules

pub returns-in-Frame-clause-either : goal.returns-in-Frame-clause-either
unfolding answer_to after_step
returns-in-Frame-clause-either c = search rules

pub returns-in-Frame-clause-valid : goal.returns-in-Frame-clause-valid
unfolding answer_to after_step
returns-in-Frame-clause-valid c = search rules

pub returns-in-Show-clause-number : goal.returns-in-Show-clause-number
unfolding answer_to after_step
returns-in-Show-clause-number c = search rules

pub returns-in-Show-clause-either : goal.returns-in-Show-clause-either
unfolding answer_to after_step
returns-in-Show-clause-either c = search rules

pub returns-in-Show-clause-valid : goal.returns-in-Show-clause-valid
unfolding answer_to after_step
returns-in-Show-clause-valid c = search rules

pub returns-clause-text : goal.returns-clause-text
unfolding answer_to after_step
returns-clause-text c = search rules

pub returns-clause-number : goal.returns-clause-number
unfolding answer_to after_step
returns-clause-number c = search rules

pub returns-clause-after : goal.returns-clause-after
unfolding answer_to after_step
returns-clause-after c = search rules

pub returns-clause-either : goal.returns-clause-either
unfolding answer_to after_step
returns-clause-either c = search rules

pub returns-clause-valid : goal.returns-clause-valid
unfolding answer_to after_step
returns-clause-valid c = search rules
