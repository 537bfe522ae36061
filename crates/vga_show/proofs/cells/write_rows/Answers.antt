use Rattle.std.proofs.Common.{◌+◌, ◌∙◌, arith}
use Rattle.std.proofs.lemmas.Result.{err_from_is_err_and}
use Rattle.vga_bits.proofs.WritingLemmas.{written_all}
use Rattle.vga_show.proofs.CellLemmas.{rows_left, rows_none, written_line, prefix_line}
use Rattle.vga_show.proofs.cells.write_rows.Goals as goal

pub returns-in_err-write_whole : goal.returns-in_err-write_whole
returns-in_err-write_whole g c =
    let w = rw (c.as_slice.ensures ∙ c.row_text.ensures) at c.in_err-write_whole.ensures in
    let e = c.last_row-row-end.ensures in
    let t = c.loop-row-test.true in
    let left = rows_left c.args.card.now c.args.bda.now (c.args.bda.now.last_row + 1) c.loop-row.row (omega arith) in
    let p = err_from_is_err_and c.from_residual.result c.from_residual.ensures.1 in
    rw (p.1, p.2) (w.0, w.1, prefix_line _ _ _ _ _ _ _ _ left c.loop-row.invariant w.2)

pub loop-row-preserved : goal.loop-row-preserved
loop-row-preserved g c =
    let w = rw (c.as_slice.ensures ∙ c.row_text.ensures) at c.in_ok-write_whole.ensures in
    let e = c.last_row-row-end.ensures in
    let t = c.loop-row-test.true in
    let left = rows_left c.args.card.now c.args.bda.now (c.args.bda.now.last_row + 1) c.loop-row.row (omega arith) in
    written_line _ _ _ _ _ _ _ _ _ left c.loop-row.invariant w.0 w.1

pub returns : goal.returns
returns g c =
    let e = c.last_row-row-end.ensures in
    let t = c.loop-row-test.false in (
      written_all _ _ _ _ _ c.loop-row.invariant (rows_none c.args.card.now c.args.bda.now (c.args.bda.now.last_row + 1) c.loop-row.row (omega arith)),
      c.loop-row.invariant.sound,
    )
