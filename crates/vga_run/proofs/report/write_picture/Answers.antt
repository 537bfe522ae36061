-- The line before a picture gives its length.
use Rattle.std.proofs.Common.{◌∙◌}
use Rattle.std.proofs.lemmas.Result.{err_from_is_err_and}
use Rattle.vga_run.proofs.ReportLemmas.{writes_picture, prefix_of_picture}
use Rattle.vga_run.proofs.report.write_picture.Goals as goal

pub returns-in_err-write_whole : goal.returns-in_err-write_whole
returns-in_err-write_whole g c =
    let w = rw (c.as_slice.ensures ∙ c.line_before_picture-line.ensures) at c.in_err-write_whole.ensures in
    let p = err_from_is_err_and c.from_residual.result c.from_residual.ensures.1 in
    let len = c.ppm_length.ensures c.args.bytes.now c.requires.whole in
    rw (p.1, p.2) (w.0, w.1, prefix_of_picture _ _ c.args.n c.args.width c.args.height c.ppm_length.result c.args.bytes.now len w.2)

pub returns : goal.returns
returns g c =
    let w = rw (c.as_slice.ensures ∙ c.line_before_picture-line.ensures) at c.in_ok-write_whole.ensures in
    let len = c.ppm_length.ensures c.args.bytes.now c.requires.whole in
    writes_picture _ _ _ _ _ c.args.n c.args.width c.args.height c.ppm_length.result c.args.bytes.now len w.0 c.write_ppm_and_newline.ensures
