use Rattle.std.proofs.Common.{sym, ◌∙◌}
use Rattle.vga_run.proofs.WholeFrames.{screens_are_dots}
use Rattle.vga_run.proofs.screens.screen_report_is_dot_report.Goals as goal

pub returns-clause-steps : goal.returns-clause-steps
returns-clause-steps c = screens_are_dots c.frames_are_dots.ensures.frame

pub returns-clause-reports : goal.returns-clause-reports
returns-clause-reports c = λ fonts steps glyphs range of.
    sym (c.run_writes_screen_report.ensures fonts steps glyphs range of)
    ∙ c.run_writes_dot_report.ensures fonts steps glyphs range (screens_are_dots c.frames_are_dots.ensures.frame fonts steps of)
