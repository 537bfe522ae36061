use Rattle.vga_dots.specs.Row.{AreCharactersPut}
use Rattle.vga_dots.proofs.row.fill_characters.Given as goal

-- the characters so far have the colour
abbrev pub invariant-loop-x : goal.invariant-loop-x
invariant-loop-x g l = AreCharactersPut g.row.CW l.x (λ x i. l.colour) l.fn.row l.row
