-- The colours of a picture, by numbers.
use Rattle.std.specs.Prelude.{◌≡◌, ◌+◌, ◌<◌, ◌≤◌, ℕ, List, slice_index}
use Rattle.vga_bits.specs.Bytes.{zeros}
use Rattle.vga_c.specs.declared.palette.Palette.{Palette}

-- the palette without colours
abbrev pub no_colours : Palette
no_colours = record { len = 0; colours = zeros 256 }

-- no two numbers of a palette have the same colour
abbrev pub HasColoursOnce : Palette → Type 0
HasColoursOnce p = (j k : ℕ) → j < k → k < p.len →
    ¬ (slice_index p.colours j ≡ slice_index p.colours k)

-- no number of a palette has this colour
abbrev pub NoNumberHasColour : Palette → ℕ → Type 0
NoNumberHasColour p colour = (k : ℕ) → k < p.len → ¬ (slice_index p.colours k ≡ colour)

-- a palette has one colour more, with the next number
pub record HasColourAdded (old new : Palette) (n colour : ℕ) : Type 0 where
  pub len : new.len ≡ old.len + 1
  pub few : new.len ≤ 256
  pub last : n ≡ old.len
  pub shown : slice_index new.colours n ≡ colour
  pub same : (k : ℕ) → ¬ (k ≡ n) → slice_index new.colours k ≡ slice_index old.colours k
  pub once : HasColoursOnce new

-- a colour has this number, which it had before or was given: then it is the next one
pub record HasColourNumbered (old new : Palette) (n colour : ℕ) : Type 0 where
  pub inside : n < new.len
  pub shown : slice_index new.colours n ≡ colour
  pub few : new.len ≤ 256
  pub grows : old.len ≤ new.len
  pub alone : (k : ℕ) → old.len ≤ k → k < new.len → k ≡ n
  pub same : (k : ℕ) → k < old.len → slice_index new.colours k ≡ slice_index old.colours k
  pub behind : (k : ℕ) → new.len ≤ k → slice_index new.colours k ≡ slice_index old.colours k
  pub once : HasColoursOnce new

-- ---- the colours of dots

-- Each of the first `count` dots has the number of its colour. The palette has these colours, each
-- once, in the order in which they first appear.
pub record AreDotsNumbered (count : ℕ) (colour : ℕ → ℕ) (palette : Palette) (numbers : List ℕ)
    : Type 0 where
  pub few : palette.len ≤ 256
  pub inside : (i : ℕ) → i < count → slice_index numbers i < palette.len
  pub shown : (i : ℕ) → i < count → slice_index palette.colours (slice_index numbers i) ≡ colour i
  pub once : HasColoursOnce palette
  pub behind : (k : ℕ) → palette.len ≤ k → slice_index palette.colours k ≡ 0
  pub in_order : (k : ℕ) → k < palette.len → (i : ℕ) × (i < count) × (slice_index numbers i ≡ k)
      × ((j : ℕ) → j < i → slice_index numbers j < k)

-- 256 colours of the first `count` dots fill a palette, each once, and a dot has another colour
pub record HaveTooManyColours (count : ℕ) (colour : ℕ → ℕ) : Type 0 where
  pub palette : Palette
  pub full : palette.len ≡ 256
  pub once : HasColoursOnce palette
  pub of_dots : (k : ℕ) → k < palette.len →
      (i : ℕ) × (i < count) × (colour i ≡ slice_index palette.colours k)
  pub other : (i : ℕ) × (i < count) × NoNumberHasColour palette (colour i)
