-- Why a service is refused: for the first of its reasons, in the order of their numbers.
-- From the IBM PS/2 and PC BIOS Interface Technical Reference, "Interrupt 10H - Video"; the
-- refusals are this adapter's choice.
use Rattle.std.specs.Prelude.{ℕ, ◌+◌, ◌==◌, if◌then◌else◌, Option, Some, None}
use Rattle.vga_bits.specs.declared.refusal.Refusal.{Refusal}
use Rattle.vga_bits.specs.declared.refusal.Refusal.TheVariants.{NoMode, BadFunction}
use Rattle.bios_modes.specs.Bda.{BiosData}
use Rattle.bios_services.specs.declared.call.Service.{Service}
use Rattle.bios_services.specs.declared.call.Service.TheVariants.{SetCursorType, SetCursor}
use Rattle.bios_services.specs.declared.call.Service.TheVariants.{ReadCursor, SelectPage, ScrollUp}
use Rattle.bios_services.specs.declared.call.Service.TheVariants.{ScrollDown, ReadCell, WriteCells}
use Rattle.bios_services.specs.declared.call.Service.TheVariants.{WritePixel, ReadPixel, Teletype}
use Rattle.bios_services.specs.declared.call.Service.TheVariants.{ReadMode, Colours, ReadAdapter}
use Rattle.bios_services.specs.declared.call.Service.TheVariants.{WriteString, ReadDisplay}
use Rattle.bios_services.specs.Bounds.{page_count}
use Rattle.bios_services.specs.Cursor.{cursor_cell_number, cursor_position_of}
use Rattle.bios_services.specs.Cells.{cells_per_page}
use Rattle.bios_services.specs.Pixels.{pixels_across, pixels_down}
use Rattle.bios_services.specs.Strings.{string_block_len}
use Rattle.bios_services.specs.Colours.{colour_block_len, colour_refusal_besides_block}
use Rattle.bios_services.specs.Reasons.{◌or◌, refuse_unless_graphics_mode, no_page, outside_cells, outside_page}
use Rattle.bios_services.specs.Reasons.{outside_pixels, past_cells, refuse_or_wrong_block}

-- the page that a number means in a mode of this many pages; a mode of one page means page 0 by any
-- number
abbrev pub page_or_0_if_only_one : ℕ → ℕ → ℕ
page_or_0_if_only_one pages page = if pages == 1 then 0 else page

-- the page that a number means in the mode that is set
abbrev pub page_or_0_in_mode_of_one_page : BiosData → ℕ → ℕ
page_or_0_in_mode_of_one_page d page = page_or_0_if_only_one (page_count d) page

-- a service with the page that its number means
abbrev pub service_with_page_or_0_if_only_one : BiosData → Service → Service
service_with_page_or_0_if_only_one d (SetCursor page position) = SetCursor (page_or_0_in_mode_of_one_page d page) position
service_with_page_or_0_if_only_one d (ReadCursor page) = ReadCursor (page_or_0_in_mode_of_one_page d page)
service_with_page_or_0_if_only_one d (ReadCell page) = ReadCell (page_or_0_in_mode_of_one_page d page)
service_with_page_or_0_if_only_one d (WriteCells cells) =
    WriteCells (record cells { page = page_or_0_in_mode_of_one_page d cells.page })
service_with_page_or_0_if_only_one d (WritePixel page x y colour) =
    WritePixel (page_or_0_in_mode_of_one_page d page) x y colour
service_with_page_or_0_if_only_one d (ReadPixel page x y) = ReadPixel (page_or_0_in_mode_of_one_page d page) x y
service_with_page_or_0_if_only_one d (WriteString s) =
    WriteString (record s { page = page_or_0_in_mode_of_one_page d s.page })
service_with_page_or_0_if_only_one d service = service

-- how many bytes the block of a service has; None if it reads no block
abbrev pub service_block_len : Service → Option ℕ
service_block_len (Colours service) = colour_block_len service
service_block_len (WriteString string) = Some (string_block_len string)
service_block_len other = None

-- why a service is refused whatever its block: the first of its reasons
abbrev pub refusal_in_mode_besides_block : Service → BiosData → Option Refusal
refusal_in_mode_besides_block (SetCursorType cursor_type) d = None
refusal_in_mode_besides_block (SetCursor page position) d = no_page (page_count d) page
refusal_in_mode_besides_block (ReadCursor page) d = no_page (page_count d) page
refusal_in_mode_besides_block (SelectPage page) d = no_page (page_count d) page
refusal_in_mode_besides_block (ScrollUp scroll) d = None
refusal_in_mode_besides_block (ScrollDown scroll) d = None
refusal_in_mode_besides_block (ReadCell page) d =
    no_page (page_count d) page
    or outside_cells (cells_per_page d) (cursor_cell_number d page)
refusal_in_mode_besides_block (WriteCells cells) d =
    no_page (page_count d) cells.page
    or outside_cells (cells_per_page d) (cursor_cell_number d cells.page)
    or past_cells (cells_per_page d) (cursor_cell_number d cells.page) cells.count
refusal_in_mode_besides_block (WritePixel page x y colour) d =
    refuse_unless_graphics_mode d.mode
    or no_page (page_count d) page
    or outside_pixels (pixels_across d) (pixels_down d) x y
refusal_in_mode_besides_block (ReadPixel page x y) d =
    refuse_unless_graphics_mode d.mode
    or no_page (page_count d) page
    or outside_pixels (pixels_across d) (pixels_down d) x y
refusal_in_mode_besides_block (Teletype character colour) d =
    outside_page (d.last_row + 1) d.columns (cursor_position_of d d.page)
refusal_in_mode_besides_block ReadMode d = None
refusal_in_mode_besides_block (Colours service) d = colour_refusal_besides_block service
refusal_in_mode_besides_block ReadAdapter d = None
refusal_in_mode_besides_block (WriteString string) d =
    no_page (page_count d) string.page
    or outside_page (d.last_row + 1) d.columns string.position
refusal_in_mode_besides_block ReadDisplay d = None

-- why a service is refused with a block of this length
unfoldable pub refusal_in_mode : Service → BiosData → ℕ → Option Refusal
refusal_in_mode service d len =
    refuse_or_wrong_block (refusal_in_mode_besides_block service d) (service_block_len service) len

-- why a call that asks for no service is refused
abbrev pub refusal_of_unknown_call : BiosData → Refusal
refusal_of_unknown_call d = if d.mode == 0 then NoMode else BadFunction
