-- Eight dots of one colour as words, and bytes that are put into a row. These definitions serve
-- speed alone.
use Rattle.std.specs.Prelude.{◌≡◌, ℕ, ◌+◌, ◌%◌, ◌<◌, ◌≤◌, ◌⊎◌, List, slice_index, bit_xor, Bool, if◌then◌else◌}
use Rattle.vga_bits.specs.Words.{plane_byte_in_word}
use Rattle.vga_dots.specs.declared.eight_dots.EightDots.{EightDots}

-- the 24 bytes are those of the colour, over and over
pub record AreEightDotsOfColour (dots : EightDots) (colour : List ℕ) : Type 0 where
  pub first : (p : ℕ) → p < 8 → plane_byte_in_word p dots.first ≡ slice_index colour (p % 3)
  pub middle : (p : ℕ) → p < 8 → plane_byte_in_word p dots.middle ≡ slice_index colour ((8 + p) % 3)
  pub last : (p : ℕ) → p < 8 → plane_byte_in_word p dots.last ≡ slice_index colour ((16 + p) % 3)

-- eight dots, with these of their bits inverted
abbrev pub changed_dots : EightDots → EightDots → EightDots
changed_dots dots change = record {
  first = bit_xor dots.first change.first;
  middle = bit_xor dots.middle change.middle;
  last = bit_xor dots.last change.last;
}

-- Eight dots of the ground of some cells, and what changes them into eight dots of a glyph: of two
-- colours, foreground and background, as blinking and underline choose.
pub record AreGroundAndChange (dots : EightDots × EightDots) (fore back : List ℕ) (blinked underlined : Bool) : Type 0 where
  pub ground : AreEightDotsOfColour dots.0 (if blinked then back else if underlined then fore else back)
  pub glyph : AreEightDotsOfColour (changed_dots dots.0 dots.1) (if blinked then back else fore)

-- n bytes from index `from` on are f 0, f 1, .., and the others stay the same
pub record AreBytesPut (n from : ℕ) (f : ℕ → ℕ) (old new : List ℕ) : Type 0 where
  pub inside : (p : ℕ) → p < n → slice_index new (from + p) ≡ f p
  pub outside : (k : ℕ) → (k < from) ⊎ (from + n ≤ k) → slice_index new k ≡ slice_index old k
