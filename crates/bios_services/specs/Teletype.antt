-- Typing characters one after another, with control characters, while the cursor advances.
-- From the IBM PS/2 and PC BIOS Interface Technical Reference, "Interrupt 10H - Video", (AH) = 0EH.
use Rattle.std.specs.Prelude.{ℕ, ◌+◌, ◌-◌, ◌*◌, ◌==◌, nat_lt, if◌then◌else◌, false}
use Rattle.bios_modes.specs.Bda.{BiosData}
use Rattle.bios_modes.specs.Fonts.{FontSet}
use Rattle.bios_services.specs.declared.colouring.Colouring.{Colouring}
use Rattle.bios_services.specs.Plan.{Plan, Done, ◌>>=◌, ◌>>◌, get}
use Rattle.bios_modes.specs.Kinds.{is_text}
use Rattle.bios_services.specs.Cursor.{row_of_position, column_of_position, cell_number_at, cursor_position_of}
use Rattle.bios_services.specs.Cursor.{move_cursor_plan}
use Rattle.bios_services.specs.Cells.{cell_address}
use Rattle.bios_services.specs.Scroll.{scroll_page_up_by_a_row_plan}
use Rattle.bios_services.specs.Drawing.{character_plan}

-- the position of the first column of a row
abbrev pub position_at_start_of_row : ℕ → ℕ
position_at_start_of_row position = 256 * row_of_position position

-- the value that a new row is filled with: in text the attribute in the last row at this column, in
-- graphics colour 0
unfoldable pub line_feed_fill : BiosData → ℕ → ℕ → Plan ℕ
line_feed_fill d page position =
    if is_text d.mode
    then get (cell_address d page (d.columns * d.last_row + column_of_position position) + 1)
    else Done 0

-- the position one row below; on the last row it stays, and the page goes up by a row
unfoldable pub line_feed_plan : BiosData → ℕ → ℕ → Plan ℕ
line_feed_plan d page position =
    if nat_lt (row_of_position position) d.last_row then Done (position + 256)
    else (do
      colour ← line_feed_fill d page position
      scroll_page_up_by_a_row_plan d page colour
      Done position)

-- the answer is the position after this one: the next column, or the first column of the row below,
-- for which the page may go up
unfoldable pub next_position_plan : BiosData → ℕ → ℕ → Plan ℕ
next_position_plan d page position =
    if nat_lt (column_of_position position + 1) d.columns then Done (position + 1)
    else (do
      below ← line_feed_plan d page position
      Done (position_at_start_of_row below))

-- a character is written at a position; the answer is the position after it
unfoldable pub write_and_advance_plan : FontSet → BiosData → ℕ → ℕ → ℕ → Colouring → Plan ℕ
write_and_advance_plan fonts d page position character colouring = do
  character_plan fonts d page (cell_number_at d position) character colouring
  next_position_plan d page position

-- a character is typed at a position; the answer is the position afterwards. A bell does nothing; a
-- backspace goes one column back, unless it is the first; a line feed goes one row down, and a
-- carriage return to the first column. Any other character is written
unfoldable pub type_character_plan : FontSet → BiosData → ℕ → ℕ → ℕ → Colouring → Plan ℕ
type_character_plan fonts d page position character colouring =
    if character == 0x07 then Done position
    else if character == 0x08 then Done (if column_of_position position == 0 then position else position - 1)
    else if character == 0x0A then line_feed_plan d page position
    else if character == 0x0D then Done (position_at_start_of_row position)
    else write_and_advance_plan fonts d page position character colouring

-- a colour for pixels, with which cells of text keep their attributes
abbrev pub pixel_colouring : ℕ → Colouring
pixel_colouring colour = record { colour = colour; is_attribute = false }

-- 0E: a character is typed at the cursor of the active page, and the cursor moves to the position
-- afterwards; for a bell nothing happens
unfoldable pub teletype_plan : FontSet → BiosData → ℕ → ℕ → Plan BiosData
teletype_plan fonts d character colour =
    let cursor = cursor_position_of d d.page in
    if character == 0x07 then Done d
    else (do
      position ← type_character_plan fonts d d.page cursor character (pixel_colouring colour)
      move_cursor_plan d d.page position)
