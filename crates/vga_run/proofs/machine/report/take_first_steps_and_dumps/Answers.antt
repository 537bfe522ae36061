-- The steps that are taken are the first ones, all if there are fewer.
use Rattle.std.proofs.Common.{rules, ◌≡◌, ◌+◌, ◌∙◌, length, take}
use Rattle.std.proofs.lemmas.Result.{err_from_is_err_and}
use Rattle.vga_run.specs.Report.{closing_dumps}
use Rattle.vga_run.proofs.ReportLemmas.{writes_others, err_of_more, others_after}
use Rattle.vga_run.proofs.machine.report.take_first_steps_and_dumps.Goals as goal

pub returns-in_err-take_and_write_first_steps-clause-text : goal.returns-in_err-take_and_write_first_steps-clause-text
returns-in_err-take_and_write_first_steps-clause-text g c =
    let w = rw c.of_step-line.ensures at c.in_err-take_and_write_first_steps.ensures.text in
    let p = err_from_is_err_and c.from_residual.result c.from_residual.ensures.1 in
    rw (p.1, p.2) (err_of_more _ _ _ _ c.args.machine.now 1 (take c.args.most c.args.steps) closing_dumps w)

pub returns-clause-text : goal.returns-clause-text
returns-clause-text g c =
    let w = rw c.of_step-line.ensures at c.in_ok-take_and_write_first_steps.ensures.text in
    let number : c.number.result ≡ 1 + length (take c.args.most c.args.steps) = c.number.ensures
    ∙ (rw c.of_step-line.ensures at c.in_ok-take_and_write_first_steps.ensures.number) in
    writes_others _ _ _ _ _ c.args.machine.now _ 1 _ (take c.args.most c.args.steps) closing_dumps c.in_ok-take_and_write_first_steps.ensures.after number w.0
    c.write_closing_dumps.ensures.text

pub returns-clause-after : goal.returns-clause-after
returns-clause-after g c =
    others_after _ c.args.machine.now _ _ (take c.args.most c.args.steps) closing_dumps c.in_ok-take_and_write_first_steps.ensures.after c.write_closing_dumps.ensures.after

pub returns-in_err-take_and_write_first_steps-clause-after : goal.returns-in_err-take_and_write_first_steps-clause-after
returns-in_err-take_and_write_first_steps-clause-after c = search rules

pub returns-in_err-take_and_write_first_steps-clause-valid : goal.returns-in_err-take_and_write_first_steps-clause-valid
returns-in_err-take_and_write_first_steps-clause-valid c = search rules

pub returns-clause-valid : goal.returns-clause-valid
returns-clause-valid c = search rules
