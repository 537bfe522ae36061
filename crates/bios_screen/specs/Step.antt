-- What a service does to a plain screen, what it answers, and why it is refused.
-- From the IBM PS/2 and PC BIOS Interface Technical Reference, "Interrupt 10H - Video".
use Rattle.std.specs.Prelude.{ℕ, zero, suc, ◌+◌, ◌-◌, ◌*◌, ◌/◌, ◌%◌, ◌==◌, ◌&&◌, nat_lt}
use Rattle.std.specs.Prelude.{nat_le, Bool, not, if◌then◌else◌, List, [], length, get_or, set}
use Rattle.std.specs.Prelude.{slice_index, slice_set, bit_xor, Option, Some, None}
use Rattle.vga_bits.specs.Bits.{is_set, byte_of_bits}
use Rattle.vga_bits.specs.declared.refusal.Refusal.{Refusal}
use Rattle.bios_modes.specs.Fonts.{FontSet}
use Rattle.bios_services.specs.declared.regs.Regs.{Regs}
use Rattle.bios_services.specs.declared.colouring.Colouring.{Colouring}
use Rattle.bios_services.specs.declared.direction.Direction.{Direction}
use Rattle.bios_services.specs.declared.direction.Direction.TheVariants.{Up, Down}
use Rattle.bios_services.specs.declared.scroll.Scroll.{Scroll}
use Rattle.bios_services.specs.declared.scroll.Window.{Window}
use Rattle.bios_services.specs.declared.cell_run.CellRun.{CellRun}
use Rattle.bios_services.specs.declared.strings.StringCall.{StringCall}
use Rattle.bios_services.specs.declared.call.Service.{Service}
use Rattle.bios_services.specs.declared.call.Service.TheVariants.{SetCursorType, SetCursor}
use Rattle.bios_services.specs.declared.call.Service.TheVariants.{ReadCursor, SelectPage, ScrollUp}
use Rattle.bios_services.specs.declared.call.Service.TheVariants.{ScrollDown, ReadCell, WriteCells}
use Rattle.bios_services.specs.declared.call.Service.TheVariants.{WritePixel, ReadPixel, Teletype}
use Rattle.bios_services.specs.declared.call.Service.TheVariants.{ReadMode, Colours, ReadAdapter}
use Rattle.bios_services.specs.declared.call.Service.TheVariants.{WriteString, ReadDisplay}
use Rattle.bios_modes.specs.Kinds.{is_mode_of_256_colours}
use Rattle.bios_modes.specs.Palette.{is_monochrome_mode}
use Rattle.bios_services.specs.Registers.{low, with_low}
use Rattle.bios_services.specs.Scroll.{window_clipped_to_page, whole_page, scroll_distance}
use Rattle.bios_services.specs.Teletype.{position_at_start_of_row, pixel_colouring}
use Rattle.bios_services.specs.Strings.{character_at, colouring_of_character}
use Rattle.bios_services.specs.Colours.{colour_refusal_besides_block}
use Rattle.bios_services.specs.Reasons.{◌or◌, refuse_unless_graphics_mode, no_page, outside_cells, outside_page}
use Rattle.bios_services.specs.Reasons.{outside_pixels, past_cells, refuse_or_wrong_block}
use Rattle.bios_services.specs.Refusals.{page_or_0_if_only_one, service_block_len}
use Rattle.bios_services.specs.Cursor.{row_of_position, column_of_position}
use Rattle.bios_services.specs.Glyphs.{glyph_line, first_character_with_lines}
use Rattle.bios_screen.specs.Listing.{list_by_function}
use Rattle.bios_screen.specs.Colours.{with_colours, colours_answer}
use Rattle.bios_screen.specs.Screen.{Cell, Contents, Cells, Pixels, Screen, cell_of, page_cells}
use Rattle.bios_screen.specs.Screen.{page_start, cell_number_of_position, cursor_position}
use Rattle.bios_screen.specs.Screen.{cursor_cell_on_screen}

-- ---- why a service is refused

-- the page that a number means on a screen
abbrev pub page_or_0_on_screen_of_one_page : Screen → ℕ → ℕ
page_or_0_on_screen_of_one_page s page = page_or_0_if_only_one s.layout.pages page

-- the number of the cell at the cursor of a page, counted along the rows of that page
abbrev pub cursor_cell_on_page : Screen → ℕ → ℕ
cursor_cell_on_page s page = cell_number_of_position s (cursor_position s page)

-- why a service is refused on a screen whatever its block: the first of its reasons
abbrev pub refusal_on_besides_block : Screen → Service → Option Refusal
refusal_on_besides_block s (SetCursorType cursor_type) = None
refusal_on_besides_block s (SetCursor page position) = no_page s.layout.pages (page_or_0_on_screen_of_one_page s page)
refusal_on_besides_block s (ReadCursor page) = no_page s.layout.pages (page_or_0_on_screen_of_one_page s page)
refusal_on_besides_block s (SelectPage page) = no_page s.layout.pages page
refusal_on_besides_block s (ScrollUp window) = None
refusal_on_besides_block s (ScrollDown window) = None
refusal_on_besides_block s (ReadCell page) =
    no_page s.layout.pages (page_or_0_on_screen_of_one_page s page)
    or outside_cells (page_cells s) (cursor_cell_on_page s (page_or_0_on_screen_of_one_page s page))
refusal_on_besides_block s (WriteCells cells) =
    no_page s.layout.pages (page_or_0_on_screen_of_one_page s cells.page)
    or outside_cells (page_cells s) (cursor_cell_on_page s (page_or_0_on_screen_of_one_page s cells.page))
    or past_cells (page_cells s) (cursor_cell_on_page s (page_or_0_on_screen_of_one_page s cells.page)) cells.count
refusal_on_besides_block s (WritePixel page x y colour) =
    refuse_unless_graphics_mode s.mode
    or no_page s.layout.pages (page_or_0_on_screen_of_one_page s page)
    or outside_pixels (8 * s.layout.columns) (s.layout.height * s.layout.rows) x y
refusal_on_besides_block s (ReadPixel page x y) =
    refuse_unless_graphics_mode s.mode
    or no_page s.layout.pages (page_or_0_on_screen_of_one_page s page)
    or outside_pixels (8 * s.layout.columns) (s.layout.height * s.layout.rows) x y
refusal_on_besides_block s (Teletype character colour) = outside_page s.layout.rows s.layout.columns
    (cursor_position s s.page)
refusal_on_besides_block s ReadMode = None
refusal_on_besides_block s (Colours service) = colour_refusal_besides_block service
refusal_on_besides_block s ReadAdapter = None
refusal_on_besides_block s (WriteString call) =
    no_page s.layout.pages (page_or_0_on_screen_of_one_page s call.page)
    or outside_page s.layout.rows s.layout.columns call.position
refusal_on_besides_block s ReadDisplay = None

-- why a service is refused on a screen with a block of this length
unfoldable pub refusal_on : Screen → Service → ℕ → Option Refusal
refusal_on s service len = refuse_or_wrong_block (refusal_on_besides_block s service) (service_block_len service) len

-- ---- what it does to the cells

-- the cells of a screen; pixels have none
abbrev pub cells_on : Contents → List Cell
cells_on (Cells cells) = cells
cells_on (Pixels pages) = []

-- cell k of a screen; if there is none, the character 00 in attribute 00
abbrev pub cell_on : Screen → ℕ → Cell
cell_on s k = cell_of (cells_on s.contents) k

-- new cells, each given by its number and all the old ones; pixels stay
abbrev pub change_cells : ((ℕ → Cell) → ℕ → Cell) → Contents → Contents
change_cells new (Cells cells) = Cells (list_by_function (new (cell_of cells)) 0 (length cells))
change_cells new (Pixels pages) = Pixels pages

-- a screen with new cells, each given by its number and all the old ones
abbrev pub with_cells : Screen → ((ℕ → Cell) → ℕ → Cell) → Screen
with_cells s new = record s { contents = change_cells new s.contents }

-- a cell with another character, and with another attribute if one is given
abbrev pub character_over : ℕ → Colouring → Cell → Cell
character_over character colouring cell = (
  character,
  if colouring.is_attribute
      then colouring.colour else cell.1,
)

-- count cells from cell `first` on get a character, and all others stay
abbrev pub write_characters : ℕ → ℕ → ℕ → Colouring → (ℕ → Cell) → ℕ → Cell
write_characters first count character colouring old k =
    if nat_le first k && nat_lt k (first + count) then character_over character colouring (old k)
    else old k

-- the row of cell k on a page
abbrev pub row_of_cell_on_page : Screen → ℕ → ℕ → ℕ
row_of_cell_on_page s page k = (k - page_start s page) / s.layout.columns

-- the column of cell k on a page
abbrev pub column_of_cell_on_page : Screen → ℕ → ℕ → ℕ
column_of_cell_on_page s page k = (k - page_start s page) % s.layout.columns

-- whether a row and a column lie in a window
abbrev pub is_in_window : Window → ℕ → ℕ → Bool
is_in_window w row column = nat_le w.top row && (nat_lt row (w.top + w.height)
    && (nat_le w.left column && nat_lt column (w.left + w.width)))

-- whether a row of a window that moves by n rows gets another row's contents: all but the last n do
-- if it moves up, and all but the first n if it moves down
abbrev pub has_source_row : Direction → Window → ℕ → ℕ → Bool
has_source_row Up w n row = nat_lt (row + n) (w.top + w.height)
has_source_row Down w n row = nat_le (w.top + n) row

-- the number of the cell or pixel whose contents number k gets: `distance` after it if the window
-- moves up, `distance` before it if the window moves down
abbrev pub source_number : Direction → ℕ → ℕ → ℕ
source_number Up k distance = k + distance
source_number Down k distance = k - distance

-- a window of a page moves by n rows: a cell gets the contents of the one n rows below or above it,
-- the n rows that the window leaves become blank in an attribute, and all cells outside stay
abbrev pub scroll_cells : Screen → ℕ → Window → Direction → ℕ → ℕ → (ℕ → Cell) → ℕ → Cell
scroll_cells s page w direction n attribute old k =
    if nat_le (page_start s page) k && is_in_window w (row_of_cell_on_page s page k) (column_of_cell_on_page s page k)
    then (if has_source_row direction w n (row_of_cell_on_page s page k)
    then old (source_number direction k (s.layout.columns * n)) else (0x20, attribute))
    else old k

-- ---- what it does to the pixels

-- the pixels of a screen, page after page; text has none
abbrev pub pages_on : Contents → List (List ℕ)
pages_on (Cells cells) = []
pages_on (Pixels pages) = pages

-- pixel k of a page
abbrev pub pixel_of : Screen → ℕ → ℕ → ℕ
pixel_of s page k = slice_index (get_or (pages_on s.contents) page []) k

-- the number of the pixel at column x of line y, counted along the lines of its page
abbrev pub pixel_number : Screen → ℕ → ℕ → ℕ
pixel_number s x y = 8 * s.layout.columns * y + x

-- new pixels on a page, each given by its number and all the old ones; cells stay
abbrev pub change_pixels : ℕ → ((ℕ → ℕ) → ℕ → ℕ) → Contents → Contents
change_pixels page new (Cells cells) = Cells cells
change_pixels page new (Pixels pages) = Pixels (set pages page
    (list_by_function (new (slice_index (get_or pages page []))) 0 (length (get_or pages page []))))

-- a screen with new pixels on a page, each given by its number and all the old ones
abbrev pub with_pixels : Screen → ℕ → ((ℕ → ℕ) → ℕ → ℕ) → Screen
with_pixels s page new = record s { contents = change_pixels page new s.contents }

-- a pixel after a colour is written to it: in 256 colours it is that colour; in 16 colours it is
-- the four low bits, or their XOR with the old pixel if bit 7 is 1
abbrev pub colour_over : ℕ → ℕ → ℕ → ℕ
colour_over mode colour old = if is_mode_of_256_colours mode then colour else if is_set colour 7
    then bit_xor old (colour % 16) else colour % 16

-- one pixel changes, and all others stay
abbrev pub change_pixel : ℕ → (ℕ → ℕ) → (ℕ → ℕ) → ℕ → ℕ
change_pixel n change old k = if k == n then change (old k) else old k

-- the row of characters in which pixel k of a page lies
abbrev pub character_row_of_pixel : Screen → ℕ → ℕ
character_row_of_pixel s k = k / (8 * s.layout.columns) / s.layout.height

-- the column of characters in which pixel k of a page lies; each is eight pixels wide
abbrev pub character_column_of_pixel : Screen → ℕ → ℕ
character_column_of_pixel s k = k % (8 * s.layout.columns) / 8

-- the number of the cell in which pixel k of a page lies
abbrev pub character_cell_of_pixel : Screen → ℕ → ℕ
character_cell_of_pixel s k = s.layout.columns * character_row_of_pixel s k + character_column_of_pixel s k

-- the line of its cell in which pixel k of a page lies
abbrev pub line_within_cell_of_pixel : Screen → ℕ → ℕ
line_within_cell_of_pixel s k = k / (8 * s.layout.columns) % s.layout.height

-- a pixel after a character is written: a dot of the glyph writes the colour; where it has none,
-- the pixel becomes 0, or stays by XOR
abbrev pub glyph_pixel : ℕ → ℕ → Bool → ℕ → ℕ
glyph_pixel mode colour is_dot old = if is_dot then colour_over mode colour old
    else if not (is_mode_of_256_colours mode) && is_set colour 7 then old else 0

-- count cells from cell `first` on get a character from the font of the mode's height, and all
-- other pixels stay
abbrev pub draw_characters : FontSet → Screen → ℕ → ℕ → ℕ → ℕ → (ℕ → ℕ) → ℕ → ℕ
draw_characters fonts s first count character colour old k =
    if nat_le first (character_cell_of_pixel s k) && nat_lt (character_cell_of_pixel s k) (first + count)
    then glyph_pixel s.mode colour (is_set (glyph_line fonts s.layout.height character
    (line_within_cell_of_pixel s k)) (7 - k % 8)) (old k)
    else old k

-- a character goes to count cells of a page from cell `first` on, as cells of text or as pixels
abbrev pub put_characters : FontSet → Screen → ℕ → ℕ → ℕ → ℕ → Colouring → Screen
put_characters fonts s page first count character colouring =
    with_pixels (with_cells s (write_characters (page_start s page + first) count character
    colouring)) page (draw_characters fonts s first count character colouring.colour)

-- a run of cells gets a character, from the cursor of a page on
abbrev pub write_at_cursor : FontSet → Screen → ℕ → CellRun → Screen
write_at_cursor fonts s page cells = put_characters fonts s page (cursor_cell_on_page s page) cells.count
    cells.character cells.colouring

-- how far the number of a pixel is from that of the pixel some rows of characters below it
abbrev pub pixel_distance_of_rows : Screen → ℕ → ℕ
pixel_distance_of_rows s rows = 8 * s.layout.columns * (s.layout.height * rows)

-- the pixel with which a window is filled
abbrev pub fill_pixel : ℕ → ℕ → ℕ
fill_pixel mode colour = if is_mode_of_256_colours mode then colour else colour % 16

-- a window of a page moves by n rows: a pixel becomes that n rows of characters below or above it,
-- the n rows that the window leaves get a colour, and all pixels outside stay
abbrev pub scroll_pixels : Screen → Window → Direction → ℕ → ℕ → (ℕ → ℕ) → ℕ → ℕ
scroll_pixels s w direction n colour old k =
    if is_in_window w (character_row_of_pixel s k) (character_column_of_pixel s k)
    then (if has_source_row direction w n (character_row_of_pixel s k)
    then old (source_number direction k (pixel_distance_of_rows s n)) else fill_pixel s.mode colour)
    else old k

-- a window of a page moves by n rows, with its cells or its pixels
abbrev pub scroll_window : Screen → ℕ → Window → Direction → ℕ → ℕ → Screen
scroll_window s page w direction n fill =
    with_pixels (with_cells s (scroll_cells s page w direction n fill)) page
    (scroll_pixels s w direction n fill)

-- a window of the active page scrolls; without a window nothing happens
abbrev pub after_scroll_of_window : Screen → Scroll → Direction → Option Window → Screen
after_scroll_of_window s asked direction None = s
after_scroll_of_window s asked direction (Some w) =
    scroll_window s s.page w direction (scroll_distance w asked.lines) asked.fill

-- the window that a call names scrolls on the active page
abbrev pub scroll : Screen → Scroll → Direction → Screen
scroll s asked direction =
    after_scroll_of_window s asked direction (window_clipped_to_page s.layout.rows s.layout.columns asked)

-- a page goes up by a row
abbrev pub page_up : Screen → ℕ → ℕ → Screen
page_up s page fill = scroll_window s page (whole_page s.layout.rows s.layout.columns) Up 1 fill

-- ---- typing

-- the attribute in the last row of a page, in the column of a position; for pixels it is colour 0
abbrev pub last_row_attribute : Screen → ℕ → ℕ → ℕ
last_row_attribute s page position = (cell_on s (page_start s page
    + (s.layout.columns * (s.layout.rows - 1) + column_of_position position))).1

-- the position one row below; on the last row it stays, and the page goes up by a row, with a new
-- row in that attribute or colour
abbrev pub after_line_feed : Screen → ℕ → ℕ → Screen × ℕ
after_line_feed s page position =
    if nat_lt (row_of_position position) (s.layout.rows - 1) then (s, position + 256)
    else (page_up s page (last_row_attribute s page position), position)

-- the position after one: the next column, or the first column of the row below
abbrev pub screen_and_next_position : Screen → ℕ → ℕ → Screen × ℕ
screen_and_next_position s page position =
    if nat_lt (column_of_position position + 1) s.layout.columns then (s, position + 1)
    else ((after_line_feed s page position).0, position_at_start_of_row (after_line_feed s page position).1)

-- a character is written at a position
abbrev pub put_character : FontSet → Screen → ℕ → ℕ → ℕ → Colouring → Screen
put_character fonts s page position character colouring =
    put_characters fonts s page (cell_number_of_position s position) 1 character colouring

-- a character is typed at a position. A bell does nothing; a backspace goes one column back, unless
-- it is the first; a line feed goes one row down, and a carriage return to the first column. Any
-- other character is written
unfoldable pub type_character : FontSet → Screen → ℕ → ℕ → ℕ → Colouring → Screen × ℕ
type_character fonts s page position character colouring =
    if character == 0x07 then (s, position)
    else if character == 0x08 then (s, if column_of_position position == 0 then position else position - 1)
    else if character == 0x0A then after_line_feed s page position
    else if character == 0x0D then (s, position_at_start_of_row position)
    else screen_and_next_position (put_character fonts s page position character colouring) page
    position

-- a screen with the cursor of a page at another position
abbrev pub with_position : Screen → ℕ → ℕ → Screen
with_position s page position = record s { places = slice_set s.places page position }

-- a character is typed at the cursor of the active page, and the cursor moves to the position
-- afterwards; for a bell nothing happens
abbrev pub type_at_cursor : FontSet → Screen → ℕ → ℕ → Screen
type_at_cursor fonts s character colour =
    let after = type_character fonts s s.page (cursor_position s s.page) character
    (pixel_colouring colour) in
    if character == 0x07 then s else with_position after.0 s.page after.1

-- n characters of a string, from character i on, are typed one after another on a page; a screen
-- and a position lead to those afterwards
abbrev pub type_characters : FontSet → StringCall → List ℕ → ℕ → ℕ → ℕ → Screen × ℕ → Screen × ℕ
type_characters fonts call block page zero i at = at
type_characters fonts call block page (suc n) i at =
    type_characters fonts call block page n (i + 1)
    (type_character fonts at.0 page at.1 (character_at call block i) (colouring_of_character call block i))

-- a whole string is typed on a page, and if AL asks for it, the cursor moves to the position after
abbrev pub type_string : FontSet → Screen → ℕ → StringCall → List ℕ → Screen
type_string fonts s page call block =
    let after = type_characters fonts call block page call.count 0 (s, call.position) in
    if call.moves_cursor then with_position after.0 page after.1 else after.0

-- ---- services

-- the screen after a service that is not refused
unfoldable pub next : FontSet → Screen → Service → List ℕ → Screen
next fonts s (SetCursorType cursor_type) block = record s { cursor_type = cursor_type }
next fonts s (SetCursor page position) block = with_position s (page_or_0_on_screen_of_one_page s page) position
next fonts s (ReadCursor page) block = s
next fonts s (SelectPage page) block = record s { page = page }
next fonts s (ScrollUp asked) block = scroll s asked Up
next fonts s (ScrollDown asked) block = scroll s asked Down
next fonts s (ReadCell page) block = s
next fonts s (WriteCells cells) block = write_at_cursor fonts s (page_or_0_on_screen_of_one_page s cells.page) cells
next fonts s (WritePixel page x y colour) block = with_pixels s (page_or_0_on_screen_of_one_page s page)
    (change_pixel (pixel_number s x y) (colour_over s.mode colour))
next fonts s (ReadPixel page x y) block = s
next fonts s (Teletype character colour) block = type_at_cursor fonts s character colour
next fonts s ReadMode block = s
next fonts s (Colours service) block = with_colours s service block
next fonts s ReadAdapter block = s
next fonts s (WriteString call) block = type_string fonts s (page_or_0_on_screen_of_one_page s call.page) call block
next fonts s ReadDisplay block = s

-- the cell at the cursor of a page: the character is the low byte, the attribute the high one
abbrev pub cursor_cell_word : Screen → ℕ → ℕ
cursor_cell_word s page = (cell_on s (cursor_cell_on_screen s page)).0 + 256 * (cell_on s
    (cursor_cell_on_screen s page)).1

-- line r of cell q of a page of pixels as a byte: a bit is 1 if its pixel is not 0, and the first
-- pixel is the highest bit
abbrev pub pixel_line_as_byte : Screen → ℕ → ℕ → ℕ → ℕ
pixel_line_as_byte s page q r =
    byte_of_bits (λ i. if pixel_of s page (8 * (s.layout.columns
    * (s.layout.height * (q / s.layout.columns) + r) + q % s.layout.columns) + (7 - i)) == 0
    then 0 else 1)

-- the first character whose glyph has a dot for each pixel other than 0 of the cell at the cursor
-- of a page, and no other dot, else 0
abbrev pub character_at_cursor : FontSet → Screen → ℕ → ℕ
character_at_cursor fonts s page = first_character_with_lines fonts s.layout.height
    (list_by_function (pixel_line_as_byte s page (cursor_cell_on_page s page)) 0 s.layout.height) 256

-- 08: a cell of text is answered in AX, and a character of pixels in AL
abbrev pub cell_answer : Contents → FontSet → Screen → ℕ → Regs → Regs
cell_answer (Cells cells) fonts s page r = record r { ax = cursor_cell_word s page }
cell_answer (Pixels pages) fonts s page r = record r {
  ax =
      with_low r.ax (character_at_cursor fonts s page);
}

-- the registers that a service answers
unfoldable pub answer_on : FontSet → Screen → Service → Regs → Regs
answer_on fonts s (SetCursorType cursor_type) r = r
answer_on fonts s (SetCursor page position) r = r
answer_on fonts s (ReadCursor page) r = record r {
  cx = s.cursor_type;
  dx = cursor_position s (page_or_0_on_screen_of_one_page s page);
}
answer_on fonts s (SelectPage page) r = r
answer_on fonts s (ScrollUp window) r = r
answer_on fonts s (ScrollDown window) r = r
answer_on fonts s (ReadCell page) r = cell_answer s.contents fonts s (page_or_0_on_screen_of_one_page s page) r
answer_on fonts s (WriteCells cells) r = r
answer_on fonts s (WritePixel page x y colour) r = r
answer_on fonts s (ReadPixel page x y) r = record r {
  ax =
      with_low r.ax (pixel_of s (page_or_0_on_screen_of_one_page s page) (pixel_number s x y));
}
answer_on fonts s (Teletype character colour) r = r
answer_on fonts s ReadMode r = record r {
  ax = s.mode + 256 * s.layout.columns;
  bx = low r.bx + 256 * s.page;
}
answer_on fonts s (Colours service) r = colours_answer s service r
answer_on fonts s ReadAdapter r = record r {
  bx = (if is_monochrome_mode s.mode then 0x0103
      else 0x0003);
  cx = 0x0009;
}
answer_on fonts s (WriteString call) r = r
answer_on fonts s ReadDisplay r = record r { ax = 0x1A1A; bx = 0x0008 }
