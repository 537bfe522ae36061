use Rattle.std.proofs.Common.{◌≡◌, ◌≤◌, ℕ, length, slice_index}
use Rattle.vga_c.specs.Forms.{rgb_word_of_dot}
use Rattle.vga_c.specs.Palette.{AreDotsNumbered}
use Rattle.vga_c.proofs.indexed.number_dots.Given as goal

-- the dots so far are numbered
abbrev pub invariant-loop-i : goal.invariant-loop-i
invariant-loop-i l = AreDotsNumbered l.i (rgb_word_of_dot l.bytes) l.palette l.numbers
    × (((k : ℕ) → l.i ≤ k → slice_index l.numbers k ≡ slice_index l.initial.numbers k)
    × (length l.guesses ≡ 0x4_0000))
