use Rattle.std.proofs.Common.{arith}
use Rattle.std.proofs.lemmas.Result.{err_from_is_err_and}
use Rattle.vga_run.proofs.ReportLemmas.{reported_more, reported_err}
use Rattle.vga_run.proofs.report.take_and_write_steps.Goals as goal

-- where a step ends the run, the steps before it are whole
pub returns-in_err-take_and_write_step-clause-text : goal.returns-in_err-take_and_write_step-clause-text
returns-in_err-take_and_write_step-clause-text g c =
    let p = err_from_is_err_and c.from_residual.result c.from_residual.ensures.1 in
    rw (p.1, p.2) (reported_err _ _ _ _ _ _ _ _ c.args.first _ _ _ _ _ c.loop-step.invariant.reported c.loop-step.invariant.number (omega arith) c.step-item.is
    c.in_err-take_and_write_step.ensures.text)

-- one more line
pub loop-step-preserved : goal.loop-step-preserved
loop-step-preserved g c =
    let number = c.loop-step.invariant.number in
    let w = c.in_ok-take_and_write_step.ensures.text in
    record {
      reported = reported_more _ _ _ _ _ _ _ _ c.args.first _ _ _ _ _ c.loop-step.invariant.reported number (omega arith) c.step-item.is
          c.in_ok-take_and_write_step.ensures.after w.0 w.1 c.in_ok-take_and_write_step.ensures.valid;
      number = omega (arith, c.count_up.ensures, c.in_ok-take_and_write_step.ensures.number, number);
    }

-- the data are valid before each step
pub take_and_write_step-requires-clause-valid : goal.take_and_write_step-requires-clause-valid
take_and_write_step-requires-clause-valid g c = c.loop-step.invariant.reported.valid

pub returns-clause-valid : goal.returns-clause-valid
returns-clause-valid g c = c.loop-step.invariant.reported.valid
