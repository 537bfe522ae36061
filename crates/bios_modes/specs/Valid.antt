-- Which BIOS data are valid: all 0 before a mode is set, and afterwards those of the mode, in text
-- at the height of its characters.
-- From the IBM PS/2 and PC BIOS Interface Technical Reference, "BIOS Data Area", "Video Control
-- Data Area".
use Rattle.std.specs.Prelude.{◌≡◌, ◌*◌, ◌<◌, ◌⊎◌, Option, Some, None}
use Rattle.bios_modes.specs.declared.modes.ModeRow.{ModeRow}
use Rattle.bios_modes.specs.Heights.{mode_row_at_height}
use Rattle.bios_modes.specs.Bda.{BiosData, power_on_data}

-- the data have the constants of a mode's row, one of its pages, and the beginning of that page
pub record IsDataOfRow (row : ModeRow) (d : BiosData) : Type 0 where
  pub columns : d.columns ≡ row.columns
  pub size : d.size ≡ row.size
  pub last_row : d.last_row ≡ row.last_row
  pub height : d.height ≡ row.height
  pub crtc_address : d.crtc_address ≡ row.crtc_address
  pub page : d.page < row.pages
  pub start : d.start ≡ d.size * d.page

-- there is a row, and the data are its own
abbrev pub FitsModeRow : Option ModeRow → BiosData → Type 0
FitsModeRow None d = ⊥
FitsModeRow (Some row) d = IsDataOfRow row d

-- the data are all 0, or those of their mode at their height; the cursor's positions and type may
-- be any in a mode
abbrev pub IsValid : BiosData → Type 0
IsValid d = (d ≡ power_on_data) ⊎ FitsModeRow (mode_row_at_height d.mode d.height) d
