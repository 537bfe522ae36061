use Rattle.std.proofs.Common.{ℕ, List}
use Rattle.vga_dots.specs.Row.{AreCharactersPut}
use Rattle.vga_dots.specs.Alike.{RepeatCharacterBefore}
use Rattle.vga_dots.proofs.alike.repeat_last_character.Given as goal

-- of any such picture, the characters so far are drawn
abbrev pub invariant-loop-x : goal.invariant-loop-x
invariant-loop-x g l = (f : ℕ → ℕ → List ℕ) (old : List ℕ) → AreCharactersPut g.row.CW l.drawn f old l.fn.row → RepeatCharacterBefore l.drawn l.count f
    → AreCharactersPut g.row.CW l.x f old l.row
