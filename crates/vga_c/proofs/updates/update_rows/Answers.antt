use Rattle.std.proofs.Common.{◌<◌, arith}
use Rattle.vga_c.specs.Forms.{div_ceil, form_word}
use Rattle.vga_c.proofs.UpdateLemmas.{rows_changed}
use Rattle.vga_c.proofs.updates.update_rows.Goals as goal

pub returns-clause-changed : goal.returns-clause-changed
returns-clause-changed c =
    let f = c.args.form in
    let top = c.count_rows_from_top-first in
    let end = c.end_of_changes-end in
    let some : top.result < div_ceil c.args.height f.down = omega (arith, top.ensures.few, c.div_ceil.ensures, c.if-first-div_ceil.false) in
    rows_changed (div_ceil c.args.width f.across) (div_ceil c.args.height f.down) c.args.pitch (form_word f c.args.width c.args.bytes.now) c.args.pixels.now
    c.write_rows.new.pixels c.write_rows.ensures top.result end.result some end.ensures.from end.ensures.few top.ensures.same (top.ensures.differs some) end.ensures.same
    end.ensures.differs
