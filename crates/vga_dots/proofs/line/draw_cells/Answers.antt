use Rattle.std.proofs.Common.{◌+◌, ◌*◌, arith, sym, subst}
use Rattle.vga_dots.specs.declared.character.CellLook.{CellLook}
use Rattle.vga_dots.specs.declared.text_colours.TextColours.{TextColours}
use Rattle.vga_dots.specs.TextColours.{AreTextColoursOf}
use Rattle.vga_dots.specs.Row.{AreDotsPut}
use Rattle.vga_dots.specs.Line.{dot_of_counter, colour_of_source_dot, unpanned_colour}
use Rattle.vga_dots.specs.Character.{IsLookOfItsCells}
use Rattle.vga_dots.proofs.RowLemmas.{characters_more}
use Rattle.vga_dots.proofs.line.draw_cells.Goals as goal
use Rattle.vga_dots.proofs.line.draw_cells.Goals.{then-cell-look, else-cell-look}

pub loop-x-preserved : goal.loop-x-preserved
loop-x-preserved g c =
    let d = c.args.display.now in
    let x = c.loop-x.x in
    let first = c.args.first in (
      characters_more g.row.CW x (λ x. unpanned_colour d (first + x)) c.args.row.now c.loop-x.row c.put.new.row c.loop-x.invariant.0
          (subst (λ counter. AreDotsPut g.row.CW (x * g.row.CW) (λ i. colour_of_source_dot d (dot_of_counter counter i)) c.loop-x.row c.put.new.row)
          (omega (arith, c.counter-start.ensures)) c.put.ensures),
      elim c.if-cell-look.branch [
        | then-cell-look w ↦ subst (λ (look : CellLook). IsLookOfItsCells look d) (sym w.look-is) w.look-look-then-cell-look.ensures.look
        | else-cell-look w ↦ subst (λ (look : CellLook). IsLookOfItsCells look d) (sym w.look-is) c.loop-x.invariant.1
      ],
      elim c.if-cell-look.branch [
        | then-cell-look w ↦ subst (λ (colours : TextColours). AreTextColoursOf colours d) (sym w.colours-is) w.look-look-then-cell-look.ensures.colours
        | else-cell-look w ↦ subst (λ (colours : TextColours). AreTextColoursOf colours d) (sym w.colours-is) c.loop-x.invariant.2
      ],
    )

pub look-look-requires-clause-colours : goal.look-look-requires-clause-colours
look-look-requires-clause-colours g c = c.new-colours.ensures c.args.display.now
