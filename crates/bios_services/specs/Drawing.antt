-- Drawing characters in cells of a page, in any mode.
-- From the IBM PS/2 and PC BIOS Interface Technical Reference, "Interrupt 10H - Video", (AH) = 09H
-- and 0AH; the order of the cycles is this adapter's choice.
use Rattle.std.specs.Prelude.{ℕ, ◌+◌, ◌-◌, ◌/◌, ◌%◌, if◌then◌else◌}
use Rattle.vga_bits.specs.Bits.{is_set}
use Rattle.bios_modes.specs.Bda.{BiosData}
use Rattle.bios_modes.specs.Fonts.{FontSet}
use Rattle.bios_services.specs.declared.colouring.Colouring.{Colouring}
use Rattle.bios_services.specs.declared.band.ColumnBand.{ColumnBand}
use Rattle.bios_modes.specs.declared.kind.Kind.{Kind}
use Rattle.bios_modes.specs.declared.kind.Kind.TheVariants.{Text, Planar, Packed}
use Rattle.bios_services.specs.Plan.{Plan, ◌>>◌, put, get, each}
use Rattle.bios_services.specs.Cycles.{write_sequencer, write_graphics}
use Rattle.bios_modes.specs.Kinds.{kind_of}
use Rattle.bios_services.specs.Cells.{cell_address, write_cell_plan}
use Rattle.bios_services.specs.Bands.{band_of, byte_address_in_band, one_byte_filling, fill_row}
use Rattle.bios_services.specs.Glyphs.{glyph_line}
use Rattle.bios_services.specs.VideoRegisters.{map_mask_index, all_planes_map_mask, data_rotate_index}
use Rattle.bios_services.specs.VideoRegisters.{xor_function, replace_function}

-- the column of cell q of a page of pixels, as a band
abbrev pub cell_band : BiosData → ℕ → ℕ → ColumnBand
cell_band d page q = band_of d page (q % d.columns) 1

-- the row of characters in which cell q lies
abbrev pub cell_row : BiosData → ℕ → ℕ
cell_row d q = q / d.columns

-- a glyph goes to a cell in 16 colours, line by line
unfoldable pub put_glyph : ColumnBand → ℕ → FontSet → ℕ → Plan (Unit {0})
put_glyph cell row fonts character = each (λ r. put (byte_address_in_band cell row r 0)
    (glyph_line fonts cell.lines character r)) cell.lines 0

-- a byte is read into the latches, and dots are written over it
abbrev pub put_over_latches : ℕ → ℕ → Plan (Unit {0})
put_over_latches address dots = do
  get address
  put address dots

-- a glyph goes to a cell in 16 colours, each line over what was read there
unfoldable pub put_glyph_over : ColumnBand → ℕ → FontSet → ℕ → Plan (Unit {0})
put_glyph_over cell row fonts character = each (λ r.
    put_over_latches (byte_address_in_band cell row r 0) (glyph_line fonts cell.lines character r))
    cell.lines 0

-- a character in 16 colours: the cell becomes 0, and the planes of the colour's bits get the glyph
unfoldable pub draw_over_zeros_plan : ColumnBand → ℕ → FontSet → ℕ → ℕ → Plan (Unit {0})
draw_over_zeros_plan cell row fonts character colour = do
  fill_row cell (one_byte_filling 0x00) row
  write_sequencer map_mask_index (colour % 16)
  put_glyph cell row fonts character
  write_sequencer map_mask_index all_planes_map_mask

-- a character in 16 colours by XOR: where the glyph has dots, the planes of the colour's bits are
-- inverted
unfoldable pub draw_by_xor_plan : ColumnBand → ℕ → FontSet → ℕ → ℕ → Plan (Unit {0})
draw_by_xor_plan cell row fonts character colour = do
  write_graphics data_rotate_index xor_function
  write_sequencer map_mask_index (colour % 16)
  put_glyph_over cell row fonts character
  write_sequencer map_mask_index all_planes_map_mask
  write_graphics data_rotate_index replace_function

-- a character in 16 colours; bit 7 of the colour asks for XOR
unfoldable pub draw_character_in_16_colours_plan : ColumnBand → ℕ → FontSet → ℕ → ℕ → Plan (Unit {0})
draw_character_in_16_colours_plan cell row fonts character colour =
    if is_set colour 7 then draw_by_xor_plan cell row fonts character colour
    else draw_over_zeros_plan cell row fonts character colour

-- dot i of a line of a glyph in 256 colours
abbrev pub glyph_dot_colour : ℕ → ℕ → ℕ → ℕ
glyph_dot_colour dots colour i = if is_set dots (7 - i) then colour else 0

-- a line of a glyph in 256 colours, dot by dot
unfoldable pub put_glyph_line_in_256_colours : ColumnBand → ℕ → ℕ → ℕ → ℕ → Plan (Unit {0})
put_glyph_line_in_256_colours cell row line dots colour = each (λ i. put (byte_address_in_band cell row line i)
    (glyph_dot_colour dots colour i)) 8 0

-- a character in 256 colours, line by line
unfoldable pub draw_character_in_256_colours_plan : ColumnBand → ℕ → FontSet → ℕ → ℕ → Plan (Unit {0})
draw_character_in_256_colours_plan cell row fonts character colour = each (λ r.
    put_glyph_line_in_256_colours cell row r (glyph_line fonts cell.lines character r) colour) cell.lines 0

-- a character goes to cell q of a page, by how a mode uses the memory
unfoldable pub character_plan_of_kind : Kind → FontSet → BiosData → ℕ → ℕ → ℕ → Colouring
    → Plan (Unit {0})
character_plan_of_kind Text fonts d page q character colouring =
    write_cell_plan (cell_address d page q) character colouring
character_plan_of_kind Planar fonts d page q character colouring =
    draw_character_in_16_colours_plan (cell_band d page q) (cell_row d q) fonts character colouring.colour
character_plan_of_kind Packed fonts d page q character colouring =
    draw_character_in_256_colours_plan (cell_band d page q) (cell_row d q) fonts character colouring.colour

-- a character goes to cell q of a page
abbrev pub character_plan : FontSet → BiosData → ℕ → ℕ → ℕ → Colouring → Plan (Unit {0})
character_plan fonts d page q character colouring =
    character_plan_of_kind (kind_of d.mode) fonts d page q character colouring

-- a character goes to n cells from cell q on
unfoldable pub characters_plan : FontSet → BiosData → ℕ → ℕ → ℕ → Colouring → ℕ → Plan (Unit {0})
characters_plan fonts d page q character colouring n =
    each (λ i. character_plan fonts d page (q + i) character colouring) n 0
