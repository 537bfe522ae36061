use Rattle.std.proofs.Common.{◌-◌, [], if◌then◌else◌}
use Rattle.std.specs.Prelude.{nat_lt, slice_index_or}
use Rattle.vga_dots.specs.Row.{plane_bits_in_word, AreFirstDotsPut}
use Rattle.vga_dots.proofs.row.put_planar_character.Given as goal

-- the dots so far are written
abbrev pub invariant-loop-i : goal.invariant-loop-i
invariant-loop-i g l = AreFirstDotsPut g.row.CW l.i l.at (λ i. slice_index_or l.table (if nat_lt i 8 then plane_bits_in_word l.word (7 - i) else 0) []) l.fn.row l.row
