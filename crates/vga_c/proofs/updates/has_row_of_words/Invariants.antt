use Rattle.std.proofs.Common.{◌≡◌, ◌+◌, ◌*◌, ◌<◌, ℕ}
use Rattle.std.specs.Prelude.{slice_index, bit_or, IsTrue, ◌↔◌}
use Rattle.vga_c.specs.Forms.{rgb_word_of_dot}
use Rattle.vga_c.proofs.updates.has_row_of_words.Given as goal

-- so far it is known whether the words are those of the row
abbrev pub invariant-loop-x : goal.invariant-loop-x
invariant-loop-x l = IsTrue l.is_same ↔ ((k : ℕ) → k < l.x → slice_index l.pixels (l.at + k) ≡ bit_or l.form.above (rgb_word_of_dot l.bytes (l.first + l.form.across * k)))
