-- The bytes of saved states: written one after another, and read by index.
use Rattle.std.specs.Prelude.{ℕ, zero, suc, ◌≡◌, ◌+◌, ◌*◌, ◌/◌, ◌%◌, ◌==◌, Bool, true, false, List}
use Rattle.std.specs.Prelude.{[], ◌∷◌}
use Rattle.std.specs.Prelude.{◌++◌, length, take, drop, slice_index}

-- the two bytes of a word, low byte first
abbrev pub word_bytes : ℕ → List ℕ
word_bytes v = v % 256 ∷ v / 256 ∷ []

-- the word whose two bytes begin at an index
abbrev pub word_at : List ℕ → ℕ → ℕ
word_at bytes at = slice_index bytes at + 256 * slice_index bytes (at + 1)

-- The first n words in some bytes. It is opaque, because a large count would be written out in
-- every goal.
unfoldable pub first_words : ℕ → List ℕ → List ℕ
first_words zero bytes = []
first_words (suc n) bytes = word_at bytes 0 ∷ first_words n (drop 2 bytes)

-- a flag as a byte: 1 if it is set, else 0
abbrev pub flag_byte : Bool → ℕ
flag_byte true = 1
flag_byte false = 0

-- the flag at an index
abbrev pub flag_at : List ℕ → ℕ → Bool
flag_at bytes at = slice_index bytes at == 1

-- Some bytes were put into a slice, from index `at` to before index `next`. The bytes before `at`
-- and from `next` on stay the same.
pub record IsPut (old new : List ℕ) (at next : ℕ) (bytes : List ℕ) : Type 0 where
  pub end : next ≡ at + length bytes
  pub prefix : take next new ≡ take at old ++ bytes
  pub back : drop next new ≡ drop next old
