-- Dots in a row of bytes: red, green and blue of each in turn.
use Rattle.std.specs.Prelude.{◌≡◌, ℕ, ◌+◌, ◌*◌, ◌<◌, ◌≤◌, ◌⊎◌, List, [], ◌∷◌, slice_index}
use Rattle.vga_bits.specs.Words.{plane_bit_in_word}

-- the three bytes of dot n
abbrev pub bytes_of_dot : List ℕ → ℕ → List ℕ
bytes_of_dot row n =
    slice_index row (3 * n) ∷ slice_index row (3 * n + 1) ∷ slice_index row (3 * n + 2)
    ∷ []

-- bit i of each plane of a word, with plane 0 as the lowest bit
abbrev pub plane_bits_in_word : ℕ → ℕ → ℕ
plane_bits_in_word word i =
    plane_bit_in_word word 0 i + 2 * plane_bit_in_word word 1 i + 4 * plane_bit_in_word word 2 i
    + 8 * plane_bit_in_word word 3 i

-- a colour with a byte more
abbrev pub colour_and_zero_byte : List ℕ → List ℕ
colour_and_zero_byte colour =
    slice_index colour 0 ∷ slice_index colour 1 ∷ slice_index colour 2 ∷ 0 ∷ []

-- a dot has this colour, and the other bytes stay
pub record IsDotPut (old new : List ℕ) (at : ℕ) (colour : List ℕ) : Type 0 where
  pub inside : (j : ℕ) → j < 3 → slice_index new (3 * at + j) ≡ slice_index colour j
  pub outside : (k : ℕ) → (k < 3 * at) ⊎ (3 * at + 3 ≤ k) → slice_index new k ≡ slice_index old k

-- dot i of a character has this colour, and all bytes before the dot and after the character stay
pub record IsCharacterDotPut (cw at i : ℕ) (colour old new : List ℕ) : Type 0 where
  pub inside : (j : ℕ) → j < 3 → slice_index new (3 * (at + i) + j) ≡ slice_index colour j
  pub outside : (k : ℕ) → (k < 3 * (at + i)) ⊎ (3 * (at + cw) ≤ k) →
      slice_index new k ≡ slice_index old k

-- the first n dots of a character have the colours f 0, f 1, .., and all bytes before and after the
-- character stay the same
pub record AreFirstDotsPut (cw n at : ℕ) (f : ℕ → List ℕ) (old new : List ℕ) : Type 0 where
  pub inside : (i j : ℕ) → i < n → j < 3 → slice_index new (3 * (at + i) + j) ≡ slice_index (f i) j
  pub outside : (k : ℕ) → (k < 3 * at) ⊎ (3 * (at + cw) ≤ k) → slice_index new k ≡ slice_index old k

-- n dots from dot `at` on have the colours f 0, f 1, .., and the other bytes stay
pub record AreDotsPut (n at : ℕ) (f : ℕ → List ℕ) (old new : List ℕ) : Type 0 where
  pub inside : (i j : ℕ) → i < n → j < 3 → slice_index new (3 * (at + i) + j) ≡ slice_index (f i) j
  pub outside : (k : ℕ) → (k < 3 * at) ⊎ (3 * (at + n) ≤ k) → slice_index new k ≡ slice_index old k

-- n characters from the first dot on, cw dots each, have at dot i of character x the colour f x i,
-- and the other bytes stay
pub record AreCharactersPut (cw n : ℕ) (f : ℕ → ℕ → List ℕ) (old new : List ℕ) : Type 0 where
  pub inside : (x i j : ℕ) → x < n → i < cw → j < 3 →
      slice_index new (3 * (x * cw + i) + j) ≡ slice_index (f x i) j
  pub outside : (k : ℕ) → 3 * (n * cw) ≤ k → slice_index new k ≡ slice_index old k
