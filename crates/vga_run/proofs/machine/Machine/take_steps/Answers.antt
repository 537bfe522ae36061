use Rattle.std.proofs.Common.{rules}
use Rattle.vga_run.proofs.machine.Machine.take_steps.Goals as goal

pub returns-in_err-take_and_write_first_steps-clause-text : goal.returns-in_err-take_and_write_first_steps-clause-text
returns-in_err-take_and_write_first_steps-clause-text c = search rules

pub returns-in_err-take_and_write_first_steps-clause-number : goal.returns-in_err-take_and_write_first_steps-clause-number
returns-in_err-take_and_write_first_steps-clause-number c = search rules

pub returns-in_err-take_and_write_first_steps-clause-after : goal.returns-in_err-take_and_write_first_steps-clause-after
returns-in_err-take_and_write_first_steps-clause-after c = search rules

pub returns-in_err-take_and_write_first_steps-clause-way : goal.returns-in_err-take_and_write_first_steps-clause-way
returns-in_err-take_and_write_first_steps-clause-way c = search rules

pub returns-in_err-take_and_write_first_steps-clause-valid : goal.returns-in_err-take_and_write_first_steps-clause-valid
returns-in_err-take_and_write_first_steps-clause-valid c = search rules

pub returns-clause-text : goal.returns-clause-text
returns-clause-text c = search rules

pub returns-clause-number : goal.returns-clause-number
returns-clause-number c = search rules

pub returns-clause-after : goal.returns-clause-after
returns-clause-after c = search rules

pub returns-clause-way : goal.returns-clause-way
returns-clause-way c = search rules

pub returns-clause-valid : goal.returns-clause-valid
returns-clause-valid c = search rules
