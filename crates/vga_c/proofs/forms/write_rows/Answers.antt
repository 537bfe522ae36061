use Rattle.std.proofs.Common.{◌+◌, ◌*◌, ◌<◌, ◌≤◌, subst, sym}
use Rattle.vga_c.specs.Forms.{div_ceil, form_word}
use Rattle.vga_c.proofs.RowLemmas.{line_within, rows_after_another}
use Rattle.vga_c.proofs.forms.write_rows.Goals as goal

-- one row more
pub loop-y-preserved : goal.loop-y-preserved
loop-y-preserved c =
    let done = c.write_row.ensures in
    let w = div_ceil c.args.width c.args.form.across in
    let same = c.div_ceil-count.ensures in
    rows_after_another w c.loop-y.y c.args.pitch (form_word c.args.form c.args.width c.args.bytes.now) c.args.pixels.now c.loop-y.pixels c.write_row.new.pixels
    c.requires.pitch c.loop-y.invariant (λ x within. done.words x (subst (λ n. x < n) (sym same) within)) done.before
    (λ i past. done.behind i (subst (λ n. c.args.pitch * c.loop-y.y + n ≤ i) (sym same) past)) done.size

-- the line of the row is there
pub write_row-requires-clause-dots : goal.write_row-requires-clause-dots
write_row-requires-clause-dots c =
    subst (λ n. 3 * (c.args.width * (c.args.form.down * c.loop-y.y + 1)) ≤ n) (sym c.requires.dots)
    (line_within c.args.width c.args.height c.args.form c.requires.form c.loop-y.y (subst (λ n. c.loop-y.y < n) c.div_ceil-y-end.ensures c.loop-y-test.true))
