use Rattle.std.proofs.Common.{sym, subst, ◌∙◌, arith, rules}
use Rattle.std.proofs.lemmas.Result.{err_from_is_err_and}
use Rattle.vga_bits.specs.Tracked.{inner_of}
use Rattle.bios_modes.specs.Fonts.{FontSet}
use Rattle.vga_script.specs.Input.{IsInput}
use Rattle.vga_run.specs.DotReport.{AreDotReportSteps, dot_report}
use Rattle.vga_run.specs.ScreenReport.{AreScreenReportSteps, screen_report}
use Rattle.vga_run.proofs.AnswerLemmas.{font_answers, input_answers, input_stops, runs_good_scripts, unread_answers}
use Rattle.vga_run.proofs.KnownReports.{run_known, unread_known}
use Rattle.vga_run.proofs.runs.run.Goals as goal

-- a script has no fault of its own
pub returns-clause-runs : goal.returns-clause-runs
returns-clause-runs g c =
    let input = g.R.Read.remaining (inner_of c.args.script.now) in
    let before = g.W.Write.contents (inner_of c.args.out.now) in
    let after = g.W.Write.contents (inner_of c.run_bytes_with_fonts.new.out) in
    let over = c.run_bytes_with_fonts in
    runs_good_scripts c.bytes_have_one_fault.ensures.none c.args.until c.args.fonts.now input before after _ _ over.result
    (input_answers c.args.until c.args.fonts.now c.in_ok-fonts.fonts input before after c.as_slice.result.now over.result c.in_ok-fonts.ensures.ok
    (subst (IsInput input) (sym c.as_slice.ensures.value) c.in_ok-bytes.ensures.input) over.ensures.answer)
    (c.in_ok-bytes.ensures.reading.0 ∙ sym over.ensures.unread) over.ensures.write_failed

-- and its report is one
pub returns-clause-screens : goal.returns-clause-screens
returns-clause-screens g c =
    let input = g.R.Read.remaining (inner_of c.args.script.now) in
    let before = g.W.Write.contents (inner_of c.args.out.now) in
    let after = g.W.Write.contents (inner_of c.run_bytes_with_fonts.new.out) in
    let over = c.run_bytes_with_fonts in
    run_known (λ (fonts : FontSet). AreScreenReportSteps) screen_report c.run_writes_screen_report.ensures c.bytes_mean_one_list.ensures c.steps_are_in_range.ensures
    c.args.until c.args.fonts.now input before after over.result c.bytes_are_below_256.ensures
    (input_answers c.args.until c.args.fonts.now c.in_ok-fonts.fonts input before after c.as_slice.result.now over.result c.in_ok-fonts.ensures.ok
    (subst (IsInput input) (sym c.as_slice.ensures.value) c.in_ok-bytes.ensures.input) over.ensures.answer)

-- so it is dot by dot
pub returns-clause-dots : goal.returns-clause-dots
returns-clause-dots g c =
    let input = g.R.Read.remaining (inner_of c.args.script.now) in
    let before = g.W.Write.contents (inner_of c.args.out.now) in
    let after = g.W.Write.contents (inner_of c.run_bytes_with_fonts.new.out) in
    let over = c.run_bytes_with_fonts in
    run_known AreDotReportSteps dot_report c.run_writes_dot_report.ensures c.bytes_mean_one_list.ensures c.steps_are_in_range.ensures c.args.until c.args.fonts.now
    input before after over.result c.bytes_are_below_256.ensures
    (input_answers c.args.until c.args.fonts.now c.in_ok-fonts.fonts input before after c.as_slice.result.now over.result c.in_ok-fonts.ensures.ok
    (subst (IsInput input) (sym c.as_slice.ensures.value) c.in_ok-bytes.ensures.input) over.ensures.answer)

-- an unread script has no report
pub returns-in_err-bytes-clause-screens : goal.returns-in_err-bytes-clause-screens
returns-in_err-bytes-clause-screens g c =
    let input = g.R.Read.remaining (inner_of c.args.script.now) in
    let before = g.W.Write.contents (inner_of c.args.out.now) in
    let p = err_from_is_err_and c.from_residual-in_err-bytes.result c.from_residual-in_err-bytes.ensures.1 in
    rw (p.1, p.2)
    (unread_known (λ (fonts : FontSet). AreScreenReportSteps) screen_report c.args.until c.args.fonts.now input before before _ c.in_err-bytes.ensures.fault)

pub returns-in_err-bytes-clause-dots : goal.returns-in_err-bytes-clause-dots
returns-in_err-bytes-clause-dots g c =
    let input = g.R.Read.remaining (inner_of c.args.script.now) in
    let before = g.W.Write.contents (inner_of c.args.out.now) in
    let p = err_from_is_err_and c.from_residual-in_err-bytes.result c.from_residual-in_err-bytes.ensures.1 in
    rw (p.1, p.2) (unread_known AreDotReportSteps dot_report c.args.until c.args.fonts.now input before before _ c.in_err-bytes.ensures.fault)

pub returns-in_err-fonts-clause-unread : goal.returns-in_err-fonts-clause-unread
returns-in_err-fonts-clause-unread c = search rules

pub returns-in_err-bytes-clause-answer : goal.returns-in_err-bytes-clause-answer
returns-in_err-bytes-clause-answer c = grind (arith, input_answers, input_stops, font_answers, unread_answers)

pub returns-in_err-bytes-clause-unread : goal.returns-in_err-bytes-clause-unread
returns-in_err-bytes-clause-unread c = search rules

pub returns-clause-stopped : goal.returns-clause-stopped
returns-clause-stopped c = grind (arith, input_answers, input_stops, font_answers, unread_answers)

pub returns-in_err-fonts-clause-answer : goal.returns-in_err-fonts-clause-answer
returns-in_err-fonts-clause-answer c = search rules

pub returns-in_err-fonts-clause-runs : goal.returns-in_err-fonts-clause-runs
returns-in_err-fonts-clause-runs c = search rules

pub returns-in_err-fonts-clause-screens : goal.returns-in_err-fonts-clause-screens
returns-in_err-fonts-clause-screens c = search rules

pub returns-in_err-fonts-clause-dots : goal.returns-in_err-fonts-clause-dots
returns-in_err-fonts-clause-dots c = search rules

pub returns-in_err-fonts-clause-reading : goal.returns-in_err-fonts-clause-reading
returns-in_err-fonts-clause-reading c = search rules

pub returns-in_err-fonts-clause-write_failed : goal.returns-in_err-fonts-clause-write_failed
returns-in_err-fonts-clause-write_failed c = search rules

pub returns-in_err-fonts-clause-unwritten : goal.returns-in_err-fonts-clause-unwritten
returns-in_err-fonts-clause-unwritten c = search rules

pub returns-in_err-fonts-clause-stopped : goal.returns-in_err-fonts-clause-stopped
returns-in_err-fonts-clause-stopped c = search rules

pub returns-in_err-bytes-clause-runs : goal.returns-in_err-bytes-clause-runs
returns-in_err-bytes-clause-runs c = search rules

pub returns-in_err-bytes-clause-reading : goal.returns-in_err-bytes-clause-reading
returns-in_err-bytes-clause-reading c = search rules

pub returns-in_err-bytes-clause-write_failed : goal.returns-in_err-bytes-clause-write_failed
returns-in_err-bytes-clause-write_failed c = search rules

pub returns-in_err-bytes-clause-unwritten : goal.returns-in_err-bytes-clause-unwritten
returns-in_err-bytes-clause-unwritten c = search rules

pub returns-in_err-bytes-clause-stopped : goal.returns-in_err-bytes-clause-stopped
returns-in_err-bytes-clause-stopped c = search rules

pub returns-clause-answer : goal.returns-clause-answer
returns-clause-answer c = search rules

pub returns-clause-reading : goal.returns-clause-reading
returns-clause-reading c = search rules

pub returns-clause-write_failed : goal.returns-clause-write_failed
returns-clause-write_failed c = search rules

pub returns-clause-unread : goal.returns-clause-unread
returns-clause-unread c = search rules

pub returns-clause-unwritten : goal.returns-clause-unwritten
returns-clause-unwritten c = search rules
