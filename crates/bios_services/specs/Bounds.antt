-- Bounds on the numbers in the BIOS data of a mode, and on those that calls name.
use Rattle.std.specs.Prelude.{ℕ, ◌≡◌, ◌+◌, ◌*◌, ◌<◌, ◌≤◌, Option, None, Some}
use Rattle.bios_modes.specs.declared.modes.ModeRow.{ModeRow}
use Rattle.bios_modes.specs.Heights.{mode_row_at_height}
use Rattle.bios_modes.specs.Bda.{BiosData}

-- the number of the cell at row 255, column 255, in rows of 80 cells: no position names a later one
abbrev pub furthest_cell_number : ℕ
furthest_cell_number = 80 * 255 + 255

-- more cells than calls reach: a word's count of cells from any position on
abbrev pub bound_of_cells_reached_by_calls : ℕ
bound_of_cells_reached_by_calls = 80 * 255 + 255 + 65536

-- more rows than windows reach, since their corners are bytes
abbrev pub bound_of_rows_in_windows : ℕ
bound_of_rows_in_windows = 256

-- a number above the adapter's last port
abbrev pub ports_bound : ℕ
ports_bound = 0x3E0

-- how many pages a row of the mode table gives; none if there is no row
abbrev pub pages_of_row : Option ModeRow → ℕ
pages_of_row None = 0
pages_of_row (Some row) = row.pages

-- how many pages the mode has, in text at the height of its characters; none before a mode is set
abbrev pub page_count : BiosData → ℕ
page_count d = pages_of_row (mode_row_at_height d.mode d.height)

-- the data of a mode that is set: each address that they name lies in the adapter's memory
pub record IsModeSet (d : BiosData) : Type 0 where
  pub some_columns : 0 < d.columns
  pub columns : d.columns ≤ 80
  pub rows : d.last_row < 50
  pub height : d.height ≤ 16
  pub port : d.crtc_address < ports_bound
  pub pages : page_count d ≤ 8
  pub page : d.page < page_count d
  pub start : d.start ≡ d.size * d.page
  pub memory : d.size * page_count d ≤ 65536

-- a service leaves the mode's constants in the BIOS data, and a page of that mode
pub record StaysInMode (old new : BiosData) : Type 0 where
  pub mode : new.mode ≡ old.mode
  pub columns : new.columns ≡ old.columns
  pub size : new.size ≡ old.size
  pub last_row : new.last_row ≡ old.last_row
  pub height : new.height ≡ old.height
  pub crtc_address : new.crtc_address ≡ old.crtc_address
  pub page : new.page < page_count old
  pub start : new.start ≡ new.size * new.page
