use Rattle.std.proofs.Common.{◌/◌, []}
use Rattle.std.specs.Prelude.{slice_index_or}
use Rattle.vga_dots.specs.Row.{AreFirstDotsPut}
use Rattle.vga_dots.proofs.row.put_packed_character.Given as goal

-- the dots so far are written
abbrev pub invariant-loop-i : goal.invariant-loop-i
invariant-loop-i g l = AreFirstDotsPut g.row.CW l.i l.at (λ i. slice_index_or l.pixels (i / 2) []) l.fn.row l.row
