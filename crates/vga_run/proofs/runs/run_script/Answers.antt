use Rattle.std.proofs.Common.{subst}
use Rattle.vga_bits.specs.Tracked.{inner_of}
use Rattle.bios_modes.specs.Fonts.{FontSet}
use Rattle.vga_script.specs.Step.{AreInRange}
use Rattle.vga_script.specs.Item.{expanded}
use Rattle.vga_run.specs.DotReport.{AreDotReportSteps, dot_report}
use Rattle.vga_run.specs.ScreenReport.{AreScreenReportSteps, screen_report}
use Rattle.vga_run.proofs.AnswerLemmas.{steps_answers}
use Rattle.vga_run.proofs.KnownReports.{script_known}
use Rattle.vga_run.proofs.runs.run_script.Goals as goal

-- the report of services and frames is the plain screen's
pub returns-clause-screens : goal.returns-clause-screens
returns-clause-screens g c =
    let before = g.W.Write.contents (inner_of c.args.out.now) in
    let after = g.W.Write.contents (inner_of c.run_steps_with_fonts.new.out) in
    let over = c.run_steps_with_fonts in
    let steps = expanded c.args.script.now.items in
    let range = subst AreInRange c.steps-steps.ensures.steps c.steps-steps.ensures.range in
    let answer = rw c.steps-steps.ensures.steps at over.ensures.answer in
    script_known (λ (fonts : FontSet). AreScreenReportSteps) screen_report c.run_writes_screen_report.ensures c.args.until c.args.fonts.now steps before after over.result
    c.bytes_are_below_256.ensures range
    (steps_answers c.args.until c.args.fonts.now c.in_ok-fonts.fonts steps before after over.result c.in_ok-fonts.ensures.ok answer)

-- so it is dot by dot
pub returns-clause-dots : goal.returns-clause-dots
returns-clause-dots g c =
    let before = g.W.Write.contents (inner_of c.args.out.now) in
    let after = g.W.Write.contents (inner_of c.run_steps_with_fonts.new.out) in
    let over = c.run_steps_with_fonts in
    let steps = expanded c.args.script.now.items in
    let range = subst AreInRange c.steps-steps.ensures.steps c.steps-steps.ensures.range in
    let answer = rw c.steps-steps.ensures.steps at over.ensures.answer in
    script_known AreDotReportSteps dot_report c.run_writes_dot_report.ensures c.args.until c.args.fonts.now steps before after over.result
    c.bytes_are_below_256.ensures range
    (steps_answers c.args.until c.args.fonts.now c.in_ok-fonts.fonts steps before after over.result c.in_ok-fonts.ensures.ok answer)
