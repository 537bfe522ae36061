use Rattle.std.proofs.Common.{Some}
use Rattle.vga_bits.specs.Tracked.{inner_of}
use Rattle.bios_modes.specs.Fonts.{FontSet}
use Rattle.vga_run.specs.DotReport.{AreDotReportSteps, dot_report}
use Rattle.vga_run.specs.ScreenReport.{AreScreenReportSteps, screen_report}
use Rattle.vga_run.proofs.AnswerLemmas.{file_answers}
use Rattle.vga_run.proofs.KnownReports.{run_known}
use Rattle.vga_run.proofs.runs.run_bytes.Goals as goal

-- the report of services and frames is the plain screen's
pub returns-clause-screens : goal.returns-clause-screens
returns-clause-screens g c =
    let before = g.W.Write.contents (inner_of c.args.out.now) in
    let after = g.W.Write.contents (inner_of c.run_bytes_with_fonts.new.out) in
    let over = c.run_bytes_with_fonts in
    run_known (λ (fonts : FontSet). AreScreenReportSteps) screen_report c.run_writes_screen_report.ensures c.bytes_mean_one_list.ensures c.steps_are_in_range.ensures
    c.args.until c.args.fonts.now (Some c.args.script.now) before after over.result c.bytes_are_below_256.ensures
    (file_answers c.args.until c.args.fonts.now c.in_ok-fonts.fonts (Some c.args.script.now) before after over.result c.in_ok-fonts.ensures.ok
    over.ensures.answer)

-- so it is dot by dot
pub returns-clause-dots : goal.returns-clause-dots
returns-clause-dots g c =
    let before = g.W.Write.contents (inner_of c.args.out.now) in
    let after = g.W.Write.contents (inner_of c.run_bytes_with_fonts.new.out) in
    let over = c.run_bytes_with_fonts in
    run_known AreDotReportSteps dot_report c.run_writes_dot_report.ensures c.bytes_mean_one_list.ensures c.steps_are_in_range.ensures c.args.until c.args.fonts.now
    (Some c.args.script.now) before after over.result c.bytes_are_below_256.ensures
    (file_answers c.args.until c.args.fonts.now c.in_ok-fonts.fonts (Some c.args.script.now) before after over.result c.in_ok-fonts.ensures.ok
    over.ensures.answer)
