-- The data that the video BIOS keeps, each with its offset in the BIOS data area.
-- From the IBM PS/2 and PC BIOS Interface Technical Reference, "BIOS Data Area", "Video Control
-- Data Area".
use Rattle.std.specs.Prelude.{ℕ, List, replicate}

-- the data that the video BIOS keeps about its mode, its pages and its cursors
pub record BiosData : Type 0 where
  -- 49, a byte: the mode
  pub mode : ℕ
  -- 4A, a word: the number of columns of characters
  pub columns : ℕ
  -- 4C, a word: the size of a page in bytes
  pub size : ℕ
  -- 4E, a word: where the active page begins
  pub start : ℕ
  -- 50, eight words: the cursor position on each page; the row is the high byte, the column the low
  pub cursor_places : List ℕ
  -- 60, a word: the cursor's first scan line as the high byte, its last as the low one
  pub cursor_type : ℕ
  -- 62, a byte: the active page
  pub page : ℕ
  -- 63, a word: the port of the CRT controller's index
  pub crtc_address : ℕ
  -- 84, a byte: the last row of characters
  pub last_row : ℕ
  -- 85, a word: the number of scan lines of a character
  pub height : ℕ

-- the data at power-on: all 0
abbrev pub power_on_data : BiosData
power_on_data = record {
  mode = 0;
  columns = 0;
  size = 0;
  start = 0;
  cursor_places = replicate 8 0;
  cursor_type = 0;
  page = 0;
  crtc_address = 0;
  last_row = 0;
  height = 0;
}
