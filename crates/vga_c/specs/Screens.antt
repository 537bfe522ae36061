-- The plain screen that a machine shows, as the caller gets it.
use Rattle.std.specs.Prelude.{◌≡◌, ◌⊎◌, ◌+◌, ◌*◌, ℕ, true, if◌then◌else◌, Option, None, Some}
use Rattle.bios_modes.specs.declared.modes.ModeRow.{ModeRow}
use Rattle.bios_modes.specs.Bda.{BiosData}
use Rattle.bios_modes.specs.Kinds.{is_text}
use Rattle.bios_screen.specs.Screen.{Screen}
use Rattle.bios_screen.specs.Parts.{cell_at, pixel_at, cursor_at}
use Rattle.bios_screen.specs.Shown.{shown}
use Rattle.vga_run.specs.declared.machine.Machine.{Machine}
use Rattle.vga_c.specs.Handle.{HandleState, machine_after_owed_dots}
use Rattle.vga_c.specs.declared.screens.ScreenLayout.{ScreenLayout}
use Rattle.vga_c.specs.declared.screens.Cell.{Cell}
use Rattle.vga_c.specs.declared.screens.Place.{Place}
use Rattle.vga_c.specs.State.{flag}
use Rattle.vga_c.specs.Status.{bad_argument_status, no_screen_status, out_of_memory_status}

-- this number of pixels in a graphics mode, or 0 in text
abbrev pub pixel_count_unless_text : ℕ → ℕ → ℕ
pixel_count_unless_text mode count = if is_text mode then 0 else count

-- mode, page and sizes of a screen
abbrev pub layout_in : Screen → ScreenLayout
layout_in s = record {
  width = pixel_count_unless_text s.mode (8 * s.layout.columns);
  height = pixel_count_unless_text s.mode (s.layout.height * s.layout.rows);
  columns = s.layout.columns;
  rows = s.layout.rows;
  mode = s.mode;
  is_text = flag (is_text s.mode);
  page = s.page;
  pages = s.layout.pages;
}

-- mode, page and sizes of the screen, by the BIOS data, if there is a row of their mode
abbrev pub layout_by_bios_data : Option ModeRow → BiosData → Option ScreenLayout
layout_by_bios_data None d = None
layout_by_bios_data (Some row) d = Some (record {
  width = pixel_count_unless_text d.mode (8 * d.columns);
  height = pixel_count_unless_text d.mode (d.height * (d.last_row + 1));
  columns = d.columns;
  rows = d.last_row + 1;
  mode = d.mode;
  is_text = flag (is_text d.mode);
  page = d.page;
  pages = row.pages;
})

-- a cell, as the caller gets it
abbrev pub cell_of : Option (ℕ × ℕ) → Option Cell
cell_of None = None
cell_of (Some cell) = Some (record { character = cell.0; attribute = cell.1 })

-- a cursor position, as the caller gets it
abbrev pub place_of : Option (ℕ × ℕ) → Option Place
place_of None = None
place_of (Some place) = Some (record { row = place.0; column = place.1 })

-- the output has what was asked for, if that exists
abbrev pub IsAnswered : {A : Type 0} → Option A → A → A → ℕ → Type 0
IsAnswered None before after status = (after ≡ before) × (status ≡ bad_argument_status)
IsAnswered (Some value) before after status = (after ≡ value) × (status ≡ 0)

-- the output has what was asked of the screen that is shown; if none is shown, the output is
-- unchanged and the status says so
abbrev pub IsScreenAnswer : {A : Type 0} → Option Screen → (Screen → Option A) → A → A → ℕ → Type 0
IsScreenAnswer None ask before after status = (after ≡ before) × (status ≡ no_screen_status)
IsScreenAnswer (Some screen) ask before after status = IsAnswered (ask screen) before after status

-- the output has what was asked of the screen that a machine shows; or an allocation failed, and
-- the output is unchanged
abbrev pub MachineAnswersFromScreen : {A : Type 0} → Machine → (Screen → Option A) → A → A → ℕ → Type 0
MachineAnswersFromScreen m ask before after status = ((after ≡ before) × (status ≡ out_of_memory_status))
    ⊎ IsScreenAnswer (shown m.card m.bda) ask before after status

-- the output has what was asked of the screen that an open card shows
abbrev pub OpenCardAnswersFromScreen : {A : Type 0} → (Screen → Option A) → HandleState → A → A → ℕ → Type 0
OpenCardAnswersFromScreen ask card before after status = card.is_open ≡ true →
    MachineAnswersFromScreen (machine_after_owed_dots card) ask before after status

-- asks a screen for its layout
abbrev pub ask_layout : Screen → Option ScreenLayout
ask_layout s = Some (layout_in s)

-- asks a screen for a cell
abbrev pub ask_cell : ℕ → ℕ → ℕ → Screen → Option Cell
ask_cell page row column s = cell_of (cell_at s page row column)

-- asks a screen for a pixel
abbrev pub ask_pixel : ℕ → ℕ → ℕ → Screen → Option ℕ
ask_pixel page x y s = pixel_at s page x y

-- asks a screen for the cursor position on a page
abbrev pub ask_cursor : ℕ → Screen → Option Place
ask_cursor page s = place_of (cursor_at s page)
