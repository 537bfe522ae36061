use Rattle.std.proofs.Common.{arith, rules}
use Rattle.vga_run.proofs.AnswerLemmas.{report_answers, report_fails, report_stops}
use Rattle.vga_run.proofs.runs.run_steps_with_fonts.Goals as goal

pub returns-in_err-machine-clause-answer : goal.returns-in_err-machine-clause-answer
returns-in_err-machine-clause-answer c = search rules

pub returns-in_err-machine-clause-write_failed : goal.returns-in_err-machine-clause-write_failed
returns-in_err-machine-clause-write_failed c = search rules

pub returns-in_err-machine-clause-unwritten : goal.returns-in_err-machine-clause-unwritten
returns-in_err-machine-clause-unwritten c = search rules

pub returns-in_err-machine-clause-stopped : goal.returns-in_err-machine-clause-stopped
returns-in_err-machine-clause-stopped c = search rules

pub returns-clause-answer : goal.returns-clause-answer
returns-clause-answer c = grind (arith, report_answers, report_fails, report_stops)

pub returns-clause-write_failed : goal.returns-clause-write_failed
returns-clause-write_failed c = search rules

pub returns-clause-unwritten : goal.returns-clause-unwritten
returns-clause-unwritten c = grind (arith, report_answers, report_fails, report_stops)

pub returns-clause-stopped : goal.returns-clause-stopped
returns-clause-stopped c = search rules
