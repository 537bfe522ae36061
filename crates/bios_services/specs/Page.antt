-- A page that characters are written to, with their fonts.
use Rattle.std.specs.Prelude.{ℕ, ◌<◌}
use Rattle.bios_modes.specs.Bda.{BiosData}
use Rattle.bios_modes.specs.Fonts.{FontSet}
use Rattle.bios_services.specs.Bounds.{IsModeSet, page_count}

-- the fonts, the data of the mode, and the number of the page
pub record PageWithFontsAndData : Type 0 where
  pub fonts : FontSet
  pub bda : BiosData
  pub number : ℕ

-- a page: the fonts of its characters, the data of its mode, and its number
abbrev pub page_of : FontSet → BiosData → ℕ → PageWithFontsAndData
page_of fonts bda number = record { fonts = fonts; bda = bda; number = number }

-- a mode is set that has a page of this number
pub record IsPage (page : PageWithFontsAndData) : Type 0 where
  pub set : IsModeSet page.bda
  pub number : page.number < page_count page.bda
