-- The cursor and the pages: where a cursor stands, and the registers that show it.
-- From the IBM PS/2 and PC BIOS Interface Technical Reference, "Interrupt 10H - Video", (AH) = 01H,
-- 02H, 03H and 05H.
use Rattle.std.specs.Prelude.{ℕ, ◌+◌, ◌*◌, ◌/◌, ◌%◌, ◌==◌, if◌then◌else◌, slice_index, slice_set}
use Rattle.bios_modes.specs.Bda.{BiosData}
use Rattle.bios_services.specs.Plan.{Plan, Done, ◌>>◌}
use Rattle.bios_services.specs.Cycles.{write_crtc}
use Rattle.bios_modes.specs.Kinds.{is_text}
use Rattle.bios_services.specs.VideoRegisters.{cursor_start_index, cursor_end_index}
use Rattle.bios_services.specs.VideoRegisters.{start_address_high_index}
use Rattle.bios_services.specs.VideoRegisters.{cursor_address_high_index}

-- the row of a position, its high byte
abbrev pub row_of_position : ℕ → ℕ
row_of_position position = position / 256

-- the column of a position, its low byte
abbrev pub column_of_position : ℕ → ℕ
column_of_position position = position % 256

-- the number of the cell at a position, counted along the rows of its page
abbrev pub cell_number_at : BiosData → ℕ → ℕ
cell_number_at d position = d.columns * row_of_position position + column_of_position position

-- the cursor's position on a page
abbrev pub cursor_position_of : BiosData → ℕ → ℕ
cursor_position_of d page = slice_index d.cursor_places page

-- the number of the cell at the cursor of a page
abbrev pub cursor_cell_number : BiosData → ℕ → ℕ
cursor_cell_number d page = cell_number_at d (cursor_position_of d page)

-- a word goes to two registers of the CRT controller, the high byte to register i
unfoldable pub write_crtc_word_plan : ℕ → ℕ → ℕ → Plan (Unit {0})
write_crtc_word_plan port i n = do
  write_crtc port i (n / 256)
  write_crtc port (i + 1) (n % 256)

-- the number of the cell under the cursor of a page, as the CRT controller counts cells
abbrev pub cursor_address : BiosData → ℕ → ℕ
cursor_address d page = d.size * page / 2 + cell_number_at d (cursor_position_of d page)

-- the CRT controller gets the cursor of a page, if that is the active page of a text mode
unfoldable pub show_cursor_plan : BiosData → ℕ → Plan (Unit {0})
show_cursor_plan d page =
    if is_text d.mode then (if page == d.page then write_crtc_word_plan d.crtc_address
    cursor_address_high_index
    (cursor_address d page) else Done tt) else Done tt

-- the data with the cursor of a page at another position
abbrev pub with_position : BiosData → ℕ → ℕ → BiosData
with_position d page position = record d { cursor_places = slice_set d.cursor_places page position }

-- the data with another active page
abbrev pub with_page : BiosData → ℕ → BiosData
with_page d page = record d { page = page; start = d.size * page }

-- the first cell or byte of a page, as the CRT controller counts them
abbrev pub start_address : BiosData → ℕ → ℕ
start_address d page = if is_text d.mode then d.size * page / 2 else d.size * page

-- 02: the cursor of a page goes to a position, and is shown there on the active page of text
unfoldable pub move_cursor_plan : BiosData → ℕ → ℕ → Plan BiosData
move_cursor_plan d page position = do
  show_cursor_plan (with_position d page position) page
  Done (with_position d page position)

-- 01: the first scan line of the cursor is the high byte of its type, the last one the low byte
unfoldable pub cursor_type_plan : BiosData → ℕ → Plan BiosData
cursor_type_plan d cursor_type = do
  write_crtc d.crtc_address cursor_start_index (cursor_type / 256)
  write_crtc d.crtc_address cursor_end_index (cursor_type % 256)
  Done (record d { cursor_type = cursor_type })

-- 05: a page is shown from its start address on, with its cursor, and becomes the active one
unfoldable pub show_page_plan : BiosData → ℕ → Plan BiosData
show_page_plan d page = do
  write_crtc_word_plan d.crtc_address start_address_high_index (start_address d page)
  show_cursor_plan (with_page d page) page
  Done (with_page d page)
