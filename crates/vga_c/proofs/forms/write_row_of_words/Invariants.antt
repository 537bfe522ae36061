use Rattle.std.proofs.Common.{◌≡◌, ◌+◌, ◌*◌, ◌<◌, ◌≤◌, ℕ, length}
use Rattle.std.specs.Prelude.{slice_index, bit_or}
use Rattle.vga_c.specs.Forms.{rgb_word_of_dot}
use Rattle.vga_c.proofs.forms.write_row_of_words.Given as goal

-- the words so far are those of the row, and nothing else has changed
abbrev pub invariant-loop-x : goal.invariant-loop-x
invariant-loop-x l = (length l.pixels ≡ length l.initial.pixels)
    × (((k : ℕ) → k < l.x → slice_index l.pixels (l.at + k) ≡ bit_or l.form.above (rgb_word_of_dot l.bytes (l.first + l.form.across * k)))
    × (((k : ℕ) → k < l.at → slice_index l.pixels k ≡ slice_index l.initial.pixels k)
    × ((k : ℕ) → l.at + l.x ≤ k → slice_index l.pixels k ≡ slice_index l.initial.pixels k)))
