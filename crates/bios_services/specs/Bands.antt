-- A band: neighbouring columns of a page, as bytes of its lines. Its rows are copied and filled.
-- From the IBM PS/2 and PC BIOS Interface Technical Reference, "Interrupt 10H - Video", (AH) = 06H
-- and 07H.
use Rattle.std.specs.Prelude.{ℕ, ◌+◌, ◌-◌, ◌*◌, ◌%◌, ◌^◌, ◌<◌, ◌≤◌, ◌==◌, if◌then◌else◌}
use Rattle.bios_modes.specs.Bda.{BiosData}
use Rattle.bios_modes.specs.declared.kind.Kind.{Kind}
use Rattle.bios_modes.specs.declared.kind.Kind.TheVariants.{Text, Planar, Packed}
use Rattle.bios_services.specs.declared.band.ColumnBand.{ColumnBand}
use Rattle.bios_services.specs.declared.direction.Direction.{Direction}
use Rattle.bios_services.specs.declared.direction.Direction.TheVariants.{Up, Down}
use Rattle.bios_services.specs.declared.filling.AlternatingBytes.{AlternatingBytes}
use Rattle.bios_services.specs.Plan.{Plan, Done, ◌>>◌, put, move, each, each_down}
use Rattle.bios_services.specs.Cycles.{write_sequencer, write_graphics}
use Rattle.bios_modes.specs.Kinds.{kind_of}
use Rattle.bios_services.specs.Kinds.{column_bytes, row_lines}
use Rattle.bios_services.specs.Cells.{page_address}
use Rattle.bios_services.specs.VideoRegisters.{map_mask_index, all_planes_map_mask, graphics_mode_index}
use Rattle.bios_services.specs.VideoRegisters.{latch_copy_mode}
use Rattle.bios_services.specs.VideoRegisters.{write_and_read_mode_0, all_bits}

-- the address of a byte of the band, by row of characters, line of that row and byte of that line
abbrev pub byte_address_in_band : ColumnBand → ℕ → ℕ → ℕ → ℕ
byte_address_in_band band row line byte =
    band.start + band.pitch * (band.lines * row + line) + band.left
    + byte

-- a band in the adapter's memory: 80 columns at most, each of eight bytes at most in a line
pub record IsBand (band : ColumnBand) : Type 0 where
  pub start : band.start < 2 ^ 20
  pub pitch : band.pitch ≤ 8 * 80
  pub lines : band.lines ≤ 16
  pub left : band.left ≤ 8 * 80
  pub width : band.width ≤ 8 * 80

-- `width` columns of a page from column `left` on, by how a mode uses the memory
abbrev pub band_of_kind : Kind → BiosData → ℕ → ℕ → ℕ → ColumnBand
band_of_kind kind d page left width = record {
  kind = kind;
  start = page_address d page;
  pitch = column_bytes kind * d.columns;
  lines = row_lines kind d.height;
  left = column_bytes kind * left;
  width = column_bytes kind * width;
}

-- `width` columns of a page of the mode from column `left` on
abbrev pub band_of : BiosData → ℕ → ℕ → ℕ → ColumnBand
band_of d = band_of_kind (kind_of d.mode) d

-- a line of a row is copied to another row, byte by byte
unfoldable pub copy_line : ColumnBand → ℕ → ℕ → ℕ → Plan (Unit {0})
copy_line band from to line = each (λ i. move (byte_address_in_band band from line i)
    (byte_address_in_band band to line i)) band.width 0

-- a row is copied to another, line by line
unfoldable pub copy_row : ColumnBand → ℕ → ℕ → Plan (Unit {0})
copy_row band from to = each (copy_line band from to) band.lines 0

-- count rows from row `top` on become copies of the rows n below them, the highest row first; or
-- they are copied to the rows n below them, the lowest row first
unfoldable pub move_rows : ColumnBand → Direction → ℕ → ℕ → ℕ → Plan (Unit {0})
move_rows band Up n top count = each (λ row. copy_row band (row + n) row) count top
move_rows band Down n top count = each_down (λ row. copy_row band row (row + n)) count top

-- the bytes of blank cells: the character 20 and the attribute by turns
abbrev pub blank_cells_filling : ℕ → AlternatingBytes
blank_cells_filling attribute = record { even = 0x20; odd = attribute }

-- one byte everywhere
abbrev pub one_byte_filling : ℕ → AlternatingBytes
one_byte_filling byte = record { even = byte; odd = byte }

-- the value that byte i of a line is filled with
abbrev pub filling_byte : AlternatingBytes → ℕ → ℕ
filling_byte filling i = if i % 2 == 0 then filling.even else filling.odd

-- a line of a row is filled
unfoldable pub fill_line : ColumnBand → AlternatingBytes → ℕ → ℕ → Plan (Unit {0})
fill_line band filling row line = each (λ i. put (byte_address_in_band band row line i)
    (filling_byte filling i)) band.width 0

-- a row is filled, line by line
unfoldable pub fill_row : ColumnBand → AlternatingBytes → ℕ → Plan (Unit {0})
fill_row band filling row = each (fill_line band filling row) band.lines 0

-- count rows from row `top` on are filled
unfoldable pub fill_rows : ColumnBand → AlternatingBytes → ℕ → ℕ → Plan (Unit {0})
fill_rows band filling top count = each (fill_row band filling) count top

-- the graphics controller's read and write mode is set, which services do in 16 colours only
abbrev pub set_read_write_mode_if_16_colours_plan : Kind → ℕ → Plan (Unit {0})
set_read_write_mode_if_16_colours_plan Text mode = Done tt
set_read_write_mode_if_16_colours_plan Planar mode = write_graphics graphics_mode_index mode
set_read_write_mode_if_16_colours_plan Packed mode = Done tt

-- count rows from row `top` on become blank in an attribute, or pixels of a colour; in 16 colours
-- all planes become 0, and then the planes of the colour's bits FF
unfoldable pub fill_plan : Kind → ColumnBand → ℕ → ℕ → ℕ → Plan (Unit {0})
fill_plan Text band colour top count = fill_rows band (blank_cells_filling colour) top count
fill_plan Planar band colour top count = do
  fill_rows band (one_byte_filling 0x00) top count
  write_sequencer map_mask_index (colour % 16)
  fill_rows band (one_byte_filling all_bits) top count
  write_sequencer map_mask_index all_planes_map_mask
fill_plan Packed band colour top count = fill_rows band (one_byte_filling colour) top count

-- the first of the rows that are to be filled after count rows have moved: below them if the window
-- goes up, and else row `top`
abbrev pub first_row_to_fill : Direction → ℕ → ℕ → ℕ
first_row_to_fill Up top count = top + count
first_row_to_fill Down top count = top

-- height rows from row `top` on go up or down by n, and the n rows that they leave are filled; four
-- planes are copied through the latches
unfoldable pub scroll_rows : ColumnBand → Direction → ℕ → ℕ → ℕ → ℕ → Plan (Unit {0})
scroll_rows band direction top height n colour = do
  set_read_write_mode_if_16_colours_plan band.kind latch_copy_mode
  move_rows band direction n top (height - n)
  set_read_write_mode_if_16_colours_plan band.kind write_and_read_mode_0
  fill_plan band.kind band colour (first_row_to_fill direction top (height - n)) n
