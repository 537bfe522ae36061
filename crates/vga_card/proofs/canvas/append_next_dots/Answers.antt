use Rattle.std.proofs.Common.{◌≡◌, length, ap, arith}
use Rattle.vga_card.proofs.CanvasLemmas.{written_back}
use Rattle.vga_card.proofs.PartLemmas.{part_appended}
use Rattle.vga_card.proofs.canvas.append_next_dots.Goals as goal

pub returns-clause-part : goal.returns-clause-part
returns-clause-part g c =
    let mid = c.lengthen_buffer.new.buffer in
    let new = c.draw_next_dots_at.new.bytes in
    let whole : length new ≡ mid.len = omega arith in
    let same = c.as_mut_slice.ensures.value in
    let lines : length new ≡ length mid.items = omega (arith, ap length same) in
    rw (written_back mid.len new mid.items whole)
    (part_appended g.row.CW c.args.count c.args.display.now c.args.buffer.now.items mid.items new c.args.used
    c.requires.used c.lengthen_buffer.ensures.prefix (omega (arith, lines, c.lengthen_buffer.ensures.len)) (rw same at c.draw_next_dots_at.ensures.prefix)
    (rw same at c.draw_next_dots_at.ensures.drawn))
