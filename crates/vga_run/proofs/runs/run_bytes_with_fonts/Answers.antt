use Rattle.std.proofs.Common.{rules}
use Rattle.vga_run.proofs.runs.run_bytes_with_fonts.Goals as goal

pub returns-in_err-steps-clause-answer : goal.returns-in_err-steps-clause-answer
returns-in_err-steps-clause-answer c = search rules

pub returns-in_err-steps-clause-unread : goal.returns-in_err-steps-clause-unread
returns-in_err-steps-clause-unread c = search rules

pub returns-in_err-steps-clause-write_failed : goal.returns-in_err-steps-clause-write_failed
returns-in_err-steps-clause-write_failed c = search rules

pub returns-in_err-steps-clause-unwritten : goal.returns-in_err-steps-clause-unwritten
returns-in_err-steps-clause-unwritten c = search rules

pub returns-in_err-steps-clause-stopped : goal.returns-in_err-steps-clause-stopped
returns-in_err-steps-clause-stopped c = search rules

pub returns-clause-answer : goal.returns-clause-answer
returns-clause-answer c = search rules

pub returns-clause-unread : goal.returns-clause-unread
returns-clause-unread c = search rules

pub returns-clause-write_failed : goal.returns-clause-write_failed
returns-clause-write_failed c = search rules

pub returns-clause-unwritten : goal.returns-clause-unwritten
returns-clause-unwritten c = search rules

pub returns-clause-stopped : goal.returns-clause-stopped
returns-clause-stopped c = search rules
