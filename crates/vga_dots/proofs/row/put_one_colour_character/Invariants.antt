use Rattle.vga_dots.specs.Row.{AreDotsPut}
use Rattle.vga_dots.proofs.row.put_one_colour_character.Given as goal

-- the dots so far have the colour
abbrev pub invariant-loop-i : goal.invariant-loop-i
invariant-loop-i g l = AreDotsPut l.i l.at (λ i. l.colour) l.fn.row l.row
