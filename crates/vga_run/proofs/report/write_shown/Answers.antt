-- The number stands before a dump, and before the reason of one that is refused.
use Rattle.std.proofs.Common.{◌∙◌}
use Rattle.std.proofs.lemmas.Result.{err_from_is_err_and}
use Rattle.vga_run.specs.Step.{dump_refusal, dump_text}
use Rattle.vga_run.proofs.ReportLemmas.{prefix_of_dump}
use Rattle.vga_run.proofs.report.write_shown.Goals as goal

pub returns-in_err-write_whole : goal.returns-in_err-write_whole
returns-in_err-write_whole g c =
    let m = c.args.machine.now in
    let w = rw (c.as_slice.ensures ∙ c.line_of_number.ensures.items) at c.in_err-write_whole.ensures in
    let p = err_from_is_err_and c.from_residual.result c.from_residual.ensures.1 in
    rw (p.1, p.2) (w.0, w.1, prefix_of_dump _ _ c.args.n (dump_refusal m c.args.shown) (dump_text m c.args.shown) w.2)
