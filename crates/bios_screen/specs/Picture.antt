-- The picture of a plain screen, dot by dot.
-- From the IBM PS/2 and PC BIOS Interface Technical Reference, "Interrupt 10H - Video", and the IBM
-- PS/2 Hardware Interface Technical Reference, Video Subsystems, "Alphanumeric Modes" and "All
-- Points Addressable Modes"; at which frames characters and cursor blink, and what comes first of
-- underline, blink and cursor, is this adapter's choice.
use Rattle.std.specs.Prelude.{ℕ, ◌+◌, ◌-◌, ◌*◌, ◌/◌, ◌%◌, ◌==◌, ◌&&◌, not, nat_lt, nat_le, Bool}
use Rattle.std.specs.Prelude.{true, false, if◌then◌else◌, List, [], ◌∷◌, slice_index, bit_and}
use Rattle.std.specs.Prelude.{Option, Some, None}
use Rattle.vga_bits.specs.Bits.{is_set, field}
use Rattle.bios_modes.specs.Kinds.{is_text, is_mode_of_256_colours}
use Rattle.bios_modes.specs.Palette.{is_monochrome_mode}
use Rattle.bios_modes.specs.Modes.{mode_row}
use Rattle.bios_modes.specs.declared.modes.ModeRow.{ModeRow}
use Rattle.bios_services.specs.Registers.{high, low}
use Rattle.bios_screen.specs.Screen.{Cell, Palette, Screen, page_start, cursor_cell_on_screen}
use Rattle.bios_screen.specs.Step.{cell_on, pixel_of, pixel_number}

-- row r of a character's glyph
abbrev pub glyph_row : Screen → ℕ → ℕ → ℕ
glyph_row s character r = slice_index s.glyphs (16 * character + r)

-- whether dot i of a row belongs to the glyph: bit 7 is the leftmost dot; the ninth dot repeats the
-- eighth for the line-drawing characters C0 to DF, and else does not belong to it
abbrev pub is_glyph_dot : ℕ → ℕ → ℕ → Bool
is_glyph_dot character byte i =
    if nat_lt i 8 then is_set byte (7 - i) else nat_le 0xC0 character
    && (nat_le character 0xDF && is_set byte 0)

-- whether a cell is underlined in row r: in monochrome text by its attribute, in the last row
abbrev pub is_underlined : Screen → Cell → ℕ → Bool
is_underlined s cell r = is_monochrome_mode s.mode && ((bit_and cell.1 0x77 == 1)
    && (r == s.layout.height - 1))

-- whether a cell is hidden because it blinks: if bit 7 of the attribute is 1 and means blinking, in
-- the second 16 of 32 frames
abbrev pub is_blinked_away : Screen → Cell → Bool
is_blinked_away s cell = s.is_blink && (is_set cell.1 7 && nat_le 16 s.frame)

-- whether row r of cell k belongs to the cursor of the active page, which is shown in the first 8
-- of 16 frames unless bit 5 of its first row is 1; cells are counted from the first of page 0
abbrev pub is_cursor : Screen → ℕ → ℕ → Bool
is_cursor s k r =
    (k == cursor_cell_on_screen s s.page) && (not (is_set (high s.cursor_type) 5)
    && (nat_le (field (high s.cursor_type) 4 0) r
    && (nat_le r (field (low s.cursor_type) 4 0) && nat_lt (s.frame % 16) 8)))

-- whether dot i of row r of cell k has the cell's foreground colour: the last of underline, blink
-- and cursor that applies decides, and else the glyph
unfoldable pub is_foreground : Screen → ℕ → ℕ → ℕ → Bool
is_foreground s k r i =
    if is_cursor s k r then true
    else if is_blinked_away s (cell_on s k) then false
    else if is_underlined s (cell_on s k) r then true
    else is_glyph_dot (cell_on s k).0 (glyph_row s (cell_on s k).0 r) i

-- the four bits of a cell's background; the highest is 0 if bit 7 of attributes means blinking
abbrev pub background : Screen → Cell → ℕ
background s cell = if s.is_blink then field cell.1 6 4 else field cell.1 7 4

-- the four bits of dot i of row r of cell k
unfoldable pub nibble : Screen → ℕ → ℕ → ℕ → ℕ
nibble s k r i = if is_foreground s k r i then field (cell_on s k).1 3 0
    else background s (cell_on s k)

-- red, green and blue of the entry that a number names, after the mask
abbrev pub colour_of_value : Palette → ℕ → List ℕ
colour_of_value p n = slice_index p.reds (bit_and n p.mask)
    ∷ slice_index p.greens (bit_and n p.mask) ∷ slice_index p.blues (bit_and n p.mask) ∷ []

-- red, green and blue of four bits, which select a value of the palette
abbrev pub colour_by_palette : Palette → ℕ → List ℕ
colour_by_palette p n = colour_of_value p (slice_index p.values n)

-- the number of the cell at column x of line y of a page's picture, where a cell is nine dots wide
abbrev pub cell_at_dot : Screen → ℕ → ℕ → ℕ → ℕ
cell_at_dot s page x y = page_start s page + (s.layout.columns * (y / s.layout.height) + x / 9)

-- the colour of the dot at column x of line y of a page of text
unfoldable pub text_dot_colour : Screen → ℕ → ℕ → ℕ → List ℕ
text_dot_colour s page x y = colour_by_palette s.palette
    (nibble s (cell_at_dot s page x y) (y % s.layout.height) (x % 9))

-- ---- graphics

-- how many lines of pixels a mode has, by its row of the mode table
abbrev pub pixel_lines_of_row : Option ModeRow → ℕ
pixel_lines_of_row None = 0
pixel_lines_of_row (Some row) = row.height * (row.last_row + 1)

-- how many lines of pixels a mode has, by its number
abbrev pub pixel_lines_of_mode : ℕ → ℕ
pixel_lines_of_mode mode = pixel_lines_of_row (mode_row mode)

-- how many dots wide a pixel is: two if it is a byte
abbrev pub pixel_width : ℕ → ℕ
pixel_width mode = if is_mode_of_256_colours mode then 2 else 1

-- how many lines high a pixel is: two if the mode has 200 lines
abbrev pub pixel_height : ℕ → ℕ
pixel_height mode = if pixel_lines_of_mode mode == 200 then 2 else 1

-- the pixel at column x of line y of a page
abbrev pub pixel_at_position : Screen → ℕ → ℕ → ℕ → ℕ
pixel_at_position s page x y = pixel_of s page (pixel_number s x y)

-- the colour of the dot at column x of line y of a page of pixels: a pixel of 16 colours selects a
-- value of the palette, and one of 256 an entry
unfoldable pub pixel_dot_colour : Screen → ℕ → ℕ → ℕ → List ℕ
pixel_dot_colour s page x y =
    let pixel = pixel_at_position s page (x / pixel_width s.mode) (y / pixel_height s.mode) in
    if is_mode_of_256_colours s.mode then colour_of_value s.palette pixel else colour_by_palette s.palette pixel

-- ---- the picture

-- the colour of the dot at column x of line y of a page
abbrev pub dot_colour_at : Screen → ℕ → ℕ → ℕ → List ℕ
dot_colour_at s page x y =
    if is_text s.mode then text_dot_colour s page x y else pixel_dot_colour s page x y

-- how many dots wide the picture is, without the overscan
abbrev pub picture_width : Screen → ℕ
picture_width s = if is_text s.mode then 9 * s.layout.columns
    else pixel_width s.mode * (8 * s.layout.columns)

-- how many lines high the picture is, without the overscan
abbrev pub picture_height : Screen → ℕ
picture_height s = if is_text s.mode then s.layout.height * s.layout.rows
    else pixel_height s.mode * (s.layout.height * s.layout.rows)

-- the screen after a frame
abbrev pub next_frame : Screen → Screen
next_frame s = record s { frame = (s.frame + 1) % 32 }
