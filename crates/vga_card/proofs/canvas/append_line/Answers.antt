use Rattle.std.proofs.Common.{◌≡◌, length, ap, arith}
use Rattle.vga_card.proofs.CanvasLemmas.{line_appended, written_back}
use Rattle.vga_card.proofs.canvas.append_line.Goals as goal

pub returns-clause-line : goal.returns-clause-line
returns-clause-line g c =
    let mid = c.lengthen_buffer.new.buffer in
    let new = c.draw_line_at.new.bytes in
    let whole : length new ≡ mid.len = omega arith in
    let same = c.as_mut_slice.ensures.value in
    let lines : length new ≡ length mid.items = omega (arith, ap length same) in
    rw (written_back mid.len new mid.items whole)
    (line_appended g.row.CW c.args.display.now c.args.buffer.now.items mid.items new c.args.used c.args.len
    c.requires.used c.requires.len c.lengthen_buffer.ensures.prefix (omega (arith, lines, c.lengthen_buffer.ensures.len)) (rw same at c.draw_line_at.ensures.prefix)
    (rw same at c.draw_line_at.ensures.drawn))
