-- The BIOS data that a mode begins with.
-- From the IBM PS/2 and PC BIOS Interface Technical Reference, "Interrupt 10H - Video", (AH) = 00H.
use Rattle.std.specs.Prelude.{ℕ, replicate}
use Rattle.bios_modes.specs.declared.modes.ModeRow.{ModeRow}
use Rattle.bios_modes.specs.Bda.{BiosData}

-- the BIOS data after a mode is set: its constants, page 0, and the cursor in the upper left corner
-- of each page
abbrev pub data_of_mode : ℕ → ModeRow → BiosData
data_of_mode mode row = record {
  mode = mode;
  columns = row.columns;
  size = row.size;
  start = 0;
  cursor_places = replicate 8 0;
  cursor_type = row.cursor_type;
  page = 0;
  crtc_address = row.crtc_address;
  last_row = row.last_row;
  height = row.height;
}
