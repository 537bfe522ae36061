-- Whether the adapter shows a plain screen, and which one: a test of registers and BIOS data, and
-- then a reading of memory.
-- From the IBM PS/2 Hardware Interface Technical Reference, Video Subsystems, and the IBM PS/2 and
-- PC BIOS Interface Technical Reference, "BIOS Data Area".
use Rattle.std.specs.Prelude.{ℕ, ◌+◌, ◌-◌, ◌*◌, ◌/◌, ◌%◌, ◌==◌, ◌&&◌, nat_lt, Bool, if◌then◌else◌}
use Rattle.std.specs.Prelude.{List, [], take, drop, slice_index, bit_and, Option, Some, None}
use Rattle.std.specs.Int.{bit_at}
use Rattle.std.specs.Str.{bytes_eq}
use Rattle.vga_bits.specs.Four.{Four}
use Rattle.vga_planes.specs.Planes.{byte_at}
use Rattle.vga_attr.specs.Attr.{AttrState}
use Rattle.vga_attr.specs.Fields.{is_palette_shown, is_blink, overscan}
use Rattle.vga_card.specs.Card.{CardState}
use Rattle.bios_modes.specs.declared.modes.ModeRow.{ModeRow}
use Rattle.bios_modes.specs.Heights.{mode_row_at_height}
use Rattle.bios_modes.specs.Bda.{BiosData}
use Rattle.bios_modes.specs.Kinds.{is_text, is_mode_of_256_colours}
use Rattle.bios_services.specs.Cursor.{cursor_address, start_address}
use Rattle.bios_services.specs.Pixels.{pixels_across, pixels_down}
use Rattle.bios_screen.specs.Listing.{list_by_function}
use Rattle.bios_screen.specs.Screen.{Cell, Contents, Cells, Pixels, Layout, Palette, Screen}

-- ---- the test

-- whether the registers that memory cycles depend on are the mode's
abbrev pub has_memory_registers_of_mode : ModeRow → CardState → Bool
has_memory_registers_of_mode row c = (c.misc == row.misc) && (bytes_eq c.host.seq row.sequencer
    && bytes_eq c.host.gfx row.graphics)

-- register i of the CRT controller for this cursor type, start address and cursor location; the
-- other registers are the mode's
abbrev pub crtc_register : ModeRow → ℕ → ℕ → ℕ → ℕ → ℕ
crtc_register row cursor_type start location i =
    if i == 0x0A then bit_and (cursor_type / 256) 0x3F
    else if i == 0x0B then bit_and (cursor_type % 256) 0x7F
    else if i == 0x0C then start / 256
    else if i == 0x0D then start % 256
    else if i == 0x0E then location / 256
    else if i == 0x0F then location % 256
    else slice_index row.crtc i

-- all 25 registers of the CRT controller
abbrev pub crtc_registers : ModeRow → ℕ → ℕ → ℕ → List ℕ
crtc_registers row cursor_type start location = list_by_function
    (crtc_register row cursor_type start location) 0 25

-- the cursor location: in text that of the active page; in graphics, which shows no cursor, the one
-- that the registers contain
abbrev pub cursor_location_shown : BiosData → List ℕ → ℕ
cursor_location_shown d registers = if is_text d.mode then cursor_address d d.page
    else 256 * slice_index registers 0x0E + slice_index registers 0x0F

-- the registers of the CRT controller that show the active page of the data, with its cursor
abbrev pub crtc_registers_shown : ModeRow → BiosData → List ℕ → List ℕ
crtc_registers_shown row d registers = crtc_registers row d.cursor_type (start_address d d.page)
    (cursor_location_shown d registers)

-- whether the attribute controller shows its palette, and its registers from mode control on are
-- the mode's, except for bit 3 of mode control, which is blinking, and for overscan
abbrev pub has_attribute_registers_of_mode : ModeRow → AttrState → Bool
has_attribute_registers_of_mode row a =
    is_palette_shown a && ((bit_and (slice_index a.registers 0x10) 0xF7
    == bit_and (slice_index row.attribute 0x10) 0xF7)
    && bytes_eq (drop 0x12 a.registers) (drop 0x12 row.attribute))

-- whether the data are those of the mode, with one of its pages
abbrev pub has_bios_data_of_mode : ModeRow → BiosData → Bool
has_bios_data_of_mode row d =
    (d.columns == row.columns) && ((d.size == row.size)
    && ((d.last_row == row.last_row) && ((d.height == row.height)
    && ((d.crtc_address == row.crtc_address) && ((d.start == d.size * d.page)
    && nat_lt d.page row.pages)))))

-- whether the adapter and the data show a screen of the mode
unfoldable pub shows : ModeRow → CardState → BiosData → Bool
shows row c d =
    has_memory_registers_of_mode row c && (has_bios_data_of_mode row d && (bytes_eq c.crtc.registers
    (crtc_registers_shown row d c.crtc.registers) && has_attribute_registers_of_mode row c.attr))

-- ---- the reading

-- cell k of text memory: a character in plane 0, and its attribute in plane 1
abbrev pub cell_in : List ℕ → List ℕ → ℕ → Cell
cell_in plane0 plane1 k = (slice_index plane0 (2 * k), slice_index plane1 (2 * k))

-- the first n cells of text memory
unfoldable pub cells_in : List ℕ → List ℕ → ℕ → List Cell
cells_in plane0 plane1 n = list_by_function (cell_in plane0 plane1) 0 n

-- byte i of the glyphs; each glyph has 16 rows, the first 16 of 32 bytes in plane 2
abbrev pub glyph_byte_in_plane_2 : List ℕ → ℕ → ℕ
glyph_byte_in_plane_2 plane2 i = slice_index plane2 (32 * (i / 16) + i % 16)

-- the first n bytes of the glyphs
unfoldable pub glyph_bytes_in_plane_2 : List ℕ → ℕ → List ℕ
glyph_bytes_in_plane_2 plane2 n = list_by_function (glyph_byte_in_plane_2 plane2) 0 n

-- pixel k of a page of 16 colours that begins at byte z: its bit p lies in plane p, eight pixels to
-- a byte, the first one as the highest bit
abbrev pub planar_pixel : Four (List ℕ) → ℕ → ℕ → ℕ
planar_pixel memory z k =
    bit_at (byte_at memory 0 (z + k / 8)) (7 - k % 8)
    + 2 * bit_at (byte_at memory 1 (z + k / 8)) (7 - k % 8)
    + 4 * bit_at (byte_at memory 2 (z + k / 8)) (7 - k % 8)
    + 8 * bit_at (byte_at memory 3 (z + k / 8)) (7 - k % 8)

-- pixel n of 256 colours is a byte: the two low bits of its number select the plane, and the number
-- with these bits cleared is the offset there
abbrev pub pixel_of_256_colours : Four (List ℕ) → ℕ → ℕ
pixel_of_256_colours memory n = byte_at memory (n % 4) (n / 4 * 4)

-- pixel k of a page that begins at byte z
abbrev pub pixel_in : ℕ → Four (List ℕ) → ℕ → ℕ → ℕ
pixel_in mode memory z k = if is_mode_of_256_colours mode then pixel_of_256_colours memory (z + k)
    else planar_pixel memory z k

-- the first n pixels of a page that begins at byte z
unfoldable pub pixels_in : ℕ → Four (List ℕ) → ℕ → ℕ → List ℕ
pixels_in mode memory z n = list_by_function (pixel_in mode memory z) 0 n

-- how many pixels a page has
abbrev pub page_pixels : BiosData → ℕ
page_pixels d = pixels_across d * pixels_down d

-- the pages, of n pixels each; each begins `size` bytes after the one before
unfoldable pub pixel_pages : ℕ → Four (List ℕ) → ℕ → ℕ → ℕ → List (List ℕ)
pixel_pages mode memory size n pages =
    list_by_function (λ p. pixels_in mode memory (size * p) n) 0 pages

-- the colours of the adapter: the palette registers, the DAC's entries and its mask
abbrev pub palette_of_card : CardState → Palette
palette_of_card c = record {
  values = take 16 c.attr.registers;
  reds = c.dac.reds;
  greens = c.dac.greens;
  blues = c.dac.blues;
  mask = c.dac.mask;
}

-- the layout of a mode and its data, with this many cells from the beginning of a page to the next
abbrev pub layout_of : ModeRow → BiosData → ℕ → Layout
layout_of row d distance = record {
  columns = d.columns;
  rows = d.last_row + 1;
  height = d.height;
  distance = distance;
  pages = row.pages;
}

-- the screen of the adapter and the data, with these contents and glyphs
abbrev pub screen_with_contents : ModeRow → CardState → BiosData → ℕ → Contents → List ℕ → Screen
screen_with_contents row c d distance contents glyphs = record {
  mode = d.mode;
  layout = layout_of row d distance;
  contents = contents;
  places = d.cursor_places;
  cursor_type = d.cursor_type;
  page = d.page;
  palette = palette_of_card c;
  overscan = overscan c.attr;
  is_blink = is_blink c.attr;
  glyphs = glyphs;
  frame = c.crtc.beam.frame;
}

-- how many cells text memory has
abbrev pub text_memory_cells : ℕ
text_memory_cells = 16384

-- the text screen with these cells; a cell is two bytes of a page
abbrev pub text_screen_with_cells : ModeRow → CardState → BiosData → List Cell → Screen
text_screen_with_cells row c d cells = screen_with_contents row c d (d.size / 2) (Cells cells)
    (glyph_bytes_in_plane_2 c.host.memory.plane2 4096)

-- the text screen of the adapter and the data
abbrev pub text_screen : ModeRow → CardState → BiosData → Screen
text_screen row c d =
    text_screen_with_cells row c d (cells_in c.host.memory.plane0 c.host.memory.plane1
    text_memory_cells)

-- the screen of pixels of the adapter and the data
abbrev pub pixel_screen : ModeRow → CardState → BiosData → Screen
pixel_screen row c d =
    screen_with_contents row c d 0 (Pixels (pixel_pages d.mode c.host.memory d.size
    (page_pixels d) row.pages)) []

-- the screen of the mode's kind: text or pixels
abbrev pub screen_of : ModeRow → CardState → BiosData → Screen
screen_of row c d = if is_text d.mode then text_screen row c d else pixel_screen row c d

-- the screen that the adapter shows with these data, if it shows one, by the mode's row at its
-- height
abbrev pub screen_shown_in_mode : Option ModeRow → CardState → BiosData → Option Screen
screen_shown_in_mode None c d = None
screen_shown_in_mode (Some row) c d = if shows row c d then Some (screen_of row c d) else None

-- the screen that the adapter shows with these data, if it shows one
abbrev pub shown : CardState → BiosData → Option Screen
shown c d = screen_shown_in_mode (mode_row_at_height d.mode d.height) c d
