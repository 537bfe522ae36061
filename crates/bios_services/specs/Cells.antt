-- Cells of characters: where they lie in memory, and how text is read and written.
-- From the IBM PS/2 and PC BIOS Interface Technical Reference, "Interrupt 10H - Video", (AH) = 08H
-- to 0AH.
use Rattle.std.specs.Prelude.{ℕ, ◌+◌, ◌*◌, if◌then◌else◌, Option, Some, None}
use Rattle.bios_modes.specs.declared.modes.ModeRow.{ModeRow}
use Rattle.bios_modes.specs.Bda.{BiosData}
use Rattle.bios_modes.specs.Modes.{mode_row}
use Rattle.bios_services.specs.declared.colouring.Colouring.{Colouring}
use Rattle.bios_services.specs.Plan.{Plan, Done, ◌>>=◌, ◌>>◌, put, get}

-- the address where the pages of a mode begin, by its row of the mode table; without a row, the
-- address of graphics
abbrev pub page_0_address_of_mode_row : Option ModeRow → ℕ
page_0_address_of_mode_row None = 0xA0000
page_0_address_of_mode_row (Some row) = row.base

-- the address where the pages of a mode begin
abbrev pub page_0_address_of_mode : ℕ → ℕ
page_0_address_of_mode mode = page_0_address_of_mode_row (mode_row mode)

-- the address where a page begins
abbrev pub page_address : BiosData → ℕ → ℕ
page_address d page = page_0_address_of_mode d.mode + d.size * page

-- the address of cell q of a page of text; its attribute is at the next
abbrev pub cell_address : BiosData → ℕ → ℕ → ℕ
cell_address d page q = page_address d page + 2 * q

-- how many cells a page has
abbrev pub cells_per_page : BiosData → ℕ
cells_per_page d = d.columns * (d.last_row + 1)

-- a cell is read: the character is the low byte of the answer, the attribute its high byte
unfoldable pub read_cell_plan : ℕ → Plan ℕ
read_cell_plan address = do
  character ← get address
  colour ← get (address + 1)
  Done (character + 256 * colour)

-- a cell's attribute is written, if the colour is one
abbrev pub attribute_plan : ℕ → Colouring → Plan (Unit {0})
attribute_plan address colouring = if colouring.is_attribute then put address colouring.colour
    else Done tt

-- a character goes to a cell of text, and then its attribute, if it gets one
unfoldable pub write_cell_plan : ℕ → ℕ → Colouring → Plan (Unit {0})
write_cell_plan address character colouring = do
  put address character
  attribute_plan (address + 1) colouring
