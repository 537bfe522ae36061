-- Bounds on the numbers in BIOS data and fonts.
use Rattle.std.specs.Prelude.{ℕ, ◌≡◌, ◌<◌, List, length, slice_index}
use Rattle.bios_modes.specs.Bda.{BiosData}
use Rattle.bios_modes.specs.Fonts.{FontSet}

-- there are eight cursor positions, and each is a word
pub record IsBda (d : BiosData) : Type 0 where
  pub places : length d.cursor_places ≡ 8
  pub words : (i : ℕ) → slice_index d.cursor_places i < 65536

-- each number of a list is a byte
abbrev pub AreBytes : List ℕ → Type 0
AreBytes bytes = (i : ℕ) → slice_index bytes i < 256

-- each number of the fonts is a byte
pub record AreFonts (fonts : FontSet) : Type 0 where
  pub f8 : AreBytes fonts.f8
  pub f14 : AreBytes fonts.f14
  pub f16 : AreBytes fonts.f16
