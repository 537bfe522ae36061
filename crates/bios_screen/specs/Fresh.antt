-- The screen that a clearing mode set leaves.
-- From the IBM PS/2 and PC BIOS Interface Technical Reference, "Interrupt 10H - Video", (AH) = 00H.
use Rattle.std.specs.Prelude.{ℕ, ◌+◌, ◌*◌, ◌/◌, if◌then◌else◌, List, [], replicate, take}
use Rattle.std.specs.Prelude.{slice_index}
use Rattle.vga_bits.specs.Bits.{is_set}
use Rattle.bios_modes.specs.declared.modes.ModeRow.{ModeRow}
use Rattle.bios_modes.specs.declared.palette.Palette.{Palette as DefaultPalette}
use Rattle.bios_modes.specs.Palette.{palette_entry}
use Rattle.bios_modes.specs.Kinds.{is_text}
use Rattle.bios_screen.specs.Listing.{list_by_function}
use Rattle.bios_screen.specs.Screen.{Cell, Contents, Cells, Pixels, Layout, Palette, Screen}
use Rattle.bios_screen.specs.Shown.{text_memory_cells}

-- n cells as a mode set leaves them: blanks with attribute 07
unfoldable pub fresh_cells : ℕ → List Cell
fresh_cells n = replicate n (0x20, 0x07)

-- n pixels of colour 0
unfoldable pub blank_pixels : ℕ → List ℕ
blank_pixels n = replicate n 0

-- one component of the first n entries of a default palette: 0 red, 1 green, 2 blue
unfoldable pub default_component : DefaultPalette → ℕ → ℕ → List ℕ
default_component palette i n = list_by_function (λ k. slice_index (palette_entry palette k) i) 0 n

-- the first n bytes of a font
unfoldable pub first_bytes_of_font : List ℕ → ℕ → List ℕ
first_bytes_of_font font n = list_by_function (slice_index font) 0 n

-- the palette that a mode set loads
abbrev pub fresh_palette : ModeRow → Palette
fresh_palette row = record {
  values = take 16 row.attribute;
  reds = default_component row.palette 0 256;
  greens = default_component row.palette 1 256;
  blues = default_component row.palette 2 256;
  mask = 0xFF;
}

-- the layout of a mode, with this many cells from the beginning of a page to the next
abbrev pub fresh_layout : ModeRow → ℕ → Layout
fresh_layout row distance = record {
  columns = row.columns;
  rows = row.last_row + 1;
  height = row.height;
  distance = distance;
  pages = row.pages;
}

-- a screen of these contents and glyphs, with the cursors in the upper left corner and the mode's
-- cursor type and colours; the frame number stays
abbrev pub fresh_screen_with : ℕ → ModeRow → ℕ → Contents → List ℕ → ℕ → Screen
fresh_screen_with mode row distance contents glyphs frame = record {
  mode = mode;
  layout = fresh_layout row distance;
  contents = contents;
  places = replicate 8 0;
  cursor_type = row.cursor_type;
  page = 0;
  palette = fresh_palette row;
  overscan = slice_index row.attribute 0x11;
  is_blink = is_set (slice_index row.attribute 0x10) 3;
  glyphs = glyphs;
  frame = frame;
}

-- the fresh screen of text: blank cells, and the glyphs of a font
abbrev pub fresh_text : ℕ → ModeRow → List ℕ → ℕ → Screen
fresh_text mode row font frame =
    fresh_screen_with mode row (row.size / 2) (Cells (fresh_cells text_memory_cells))
    (first_bytes_of_font font 4096) frame

-- the fresh screen of graphics: pages of pixels of colour 0
abbrev pub fresh_pixels : ℕ → ModeRow → ℕ → Screen
fresh_pixels mode row frame = fresh_screen_with mode row 0 (Pixels
    (replicate row.pages (blank_pixels (8 * row.columns * (row.height * (row.last_row + 1)))))) []
    frame

-- the fresh screen of a mode
abbrev pub fresh_screen : ℕ → ModeRow → List ℕ → ℕ → Screen
fresh_screen mode row font frame = if is_text mode then fresh_text mode row font frame
    else fresh_pixels mode row frame
