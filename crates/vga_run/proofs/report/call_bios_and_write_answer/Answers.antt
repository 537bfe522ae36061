use Rattle.std.proofs.Common.{◌≡◌, rules}
use Rattle.bios_services.specs.declared.reply.ServiceError.TheVariants.{Refused}
use Rattle.vga_run.specs.Step.{after_int10, answer_to, after_step}
use Rattle.vga_run.proofs.ReportLemmas.{reply_is_written, refusal_is_written}
use Rattle.vga_run.proofs.report.call_bios_and_write_answer.Goals as goal

-- registers and a table
pub returns-in-Ok-clause-text : goal.returns-in-Ok-clause-text
unfolding after_int10
returns-in-Ok-clause-text g c =
    let r = c.args.regs in
    reply_is_written _ _ _ _ c.args.machine.now c.args.line.now r.ax r.bx r.cx r.dx _ _ _ c.in-Ok.reply c.in-Ok.ensures.answer
    (rw c.number.ensures at c.write_reply.ensures)

-- a refusal
pub returns-in-Err-Refused-clause-text : goal.returns-in-Err-Refused-clause-text
returns-in-Err-Refused-clause-text g c =
    let r = c.args.regs in
    let error = c.in-Err-Refused.field-0 in
    let why : error ≡ Refused c.in-Err-Refused.refusal = rw c.in-Err-Refused.is at c.in-Err-Refused.field-0-is in
    refusal_is_written _ _ _ _ c.args.machine.now c.args.line.now r.ax r.bx r.cx r.dx c.args.block.now _ _ error c.in-Err-Refused.refusal why
    (rw c.in-Err-Refused.is at c.int10-outcome.ensures.answer) c.write.ensures.text

pub returns-in-Err-OutOfMemory-clause-text : goal.returns-in-Err-OutOfMemory-clause-text
unfolding after_int10 answer_to after_step
returns-in-Err-OutOfMemory-clause-text c = search rules

pub returns-in-Err-OutOfMemory-clause-after : goal.returns-in-Err-OutOfMemory-clause-after
unfolding after_int10 answer_to after_step
returns-in-Err-OutOfMemory-clause-after c = search rules

pub returns-in-Ok-clause-valid : goal.returns-in-Ok-clause-valid
unfolding after_int10 answer_to after_step
returns-in-Ok-clause-valid c = search rules

pub returns-in-Err-Refused-clause-after : goal.returns-in-Err-Refused-clause-after
unfolding after_int10 answer_to after_step
returns-in-Err-Refused-clause-after c = search rules

pub returns-in-Err-Refused-clause-either : goal.returns-in-Err-Refused-clause-either
unfolding after_int10 answer_to after_step
returns-in-Err-Refused-clause-either c = search rules

pub returns-in-Err-Refused-clause-valid : goal.returns-in-Err-Refused-clause-valid
unfolding after_int10 answer_to after_step
returns-in-Err-Refused-clause-valid c = search rules

pub returns-in-Err-OutOfMemory-clause-either : goal.returns-in-Err-OutOfMemory-clause-either
unfolding after_int10 answer_to after_step
returns-in-Err-OutOfMemory-clause-either c = search rules

pub returns-in-Err-OutOfMemory-clause-valid : goal.returns-in-Err-OutOfMemory-clause-valid
unfolding after_int10 answer_to after_step
returns-in-Err-OutOfMemory-clause-valid c = search rules
