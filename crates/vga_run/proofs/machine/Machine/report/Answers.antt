use Rattle.std.proofs.Common.{arith, rules}
use Rattle.vga_run.proofs.ReportLemmas.{report_is_flushed}
use Rattle.vga_run.proofs.machine.Machine.report.Goals as goal

pub returns-in_err-take_steps_with_limit-clause-text : goal.returns-in_err-take_steps_with_limit-clause-text
returns-in_err-take_steps_with_limit-clause-text c = search rules

pub returns-clause-text : goal.returns-clause-text
returns-clause-text c = grind (arith, report_is_flushed)

pub returns-in_err-take_steps_with_limit-clause-after : goal.returns-in_err-take_steps_with_limit-clause-after
returns-in_err-take_steps_with_limit-clause-after c = search rules

pub returns-in_err-take_steps_with_limit-clause-valid : goal.returns-in_err-take_steps_with_limit-clause-valid
returns-in_err-take_steps_with_limit-clause-valid c = search rules

pub returns-clause-after : goal.returns-clause-after
returns-clause-after c = search rules

pub returns-clause-valid : goal.returns-clause-valid
returns-clause-valid c = search rules
