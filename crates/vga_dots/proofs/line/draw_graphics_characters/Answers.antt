use Rattle.std.proofs.Common.{◌+◌, ◌*◌, arith, subst}
use Rattle.vga_dots.specs.Row.{AreDotsPut}
use Rattle.vga_dots.specs.Line.{dot_of_counter, colour_of_source_dot, unpanned_colour}
use Rattle.vga_dots.proofs.RowLemmas.{characters_more}
use Rattle.vga_dots.proofs.line.draw_graphics_characters.Goals as goal

pub loop-x-preserved : goal.loop-x-preserved
loop-x-preserved g c =
    let d = c.args.display.now in
    let x = c.loop-x.x in
    let first = c.args.first in
    characters_more g.row.CW x (λ x. unpanned_colour d (first + x)) c.args.row.now c.loop-x.row c.put.new.row c.loop-x.invariant
    (subst (λ counter. AreDotsPut g.row.CW (x * g.row.CW) (λ i. colour_of_source_dot d (dot_of_counter counter i)) c.loop-x.row c.put.new.row)
    (omega (arith, c.counter-start.ensures)) c.put.ensures)
