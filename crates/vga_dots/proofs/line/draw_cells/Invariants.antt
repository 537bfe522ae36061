use Rattle.std.proofs.Common.{◌+◌}
use Rattle.vga_dots.specs.Row.{AreCharactersPut}
use Rattle.vga_dots.specs.Line.{unpanned_colour}
use Rattle.vga_dots.specs.Character.{IsLookOfItsCells}
use Rattle.vga_dots.specs.TextColours.{AreTextColoursOf}
use Rattle.vga_dots.proofs.line.draw_cells.Given as goal

-- the characters so far are drawn, the look at hand is that of its attribute's cells, and so are the colours that were looked up
abbrev pub invariant-loop-x : goal.invariant-loop-x
invariant-loop-x g l = AreCharactersPut g.row.CW l.x (λ x. unpanned_colour l.fn.display (l.fn.first + x)) l.fn.row l.row × IsLookOfItsCells l.look l.fn.display × AreTextColoursOf l.colours l.fn.display
