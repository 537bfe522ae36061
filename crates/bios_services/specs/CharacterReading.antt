-- Reading the character of a cell of pixels.
-- From the IBM PS/2 and PC BIOS Interface Technical Reference, "Interrupt 10H - Video", (AH) = 08H;
-- the order of the cycles is this adapter's choice.
use Rattle.std.specs.Prelude.{ℕ, ◌+◌, ◌-◌, ◌*◌, ◌%◌, ◌==◌, if◌then◌else◌, List}
use Rattle.bios_modes.specs.Fonts.{FontSet}
use Rattle.bios_services.specs.declared.band.ColumnBand.{ColumnBand}
use Rattle.bios_modes.specs.declared.kind.Kind.{Kind}
use Rattle.bios_modes.specs.declared.kind.Kind.TheVariants.{Text, Planar, Packed}
use Rattle.bios_services.specs.Plan.{Plan, Done, ◌>>=◌, ◌>>◌, get, fold, gather}
use Rattle.bios_services.specs.Bands.{byte_address_in_band, set_read_write_mode_if_16_colours_plan}
use Rattle.bios_services.specs.Glyphs.{first_character_with_lines}
use Rattle.bios_services.specs.VideoRegisters.{colour_compare_mode, write_and_read_mode_0}

-- a pixel of 256 colours is read and shifted into a line from the right: 0 if it is 0, and else 1
unfoldable pub shift_pixel_into_line : ℕ → ℕ → Plan ℕ
shift_pixel_into_line address line = do
  dot ← get address
  Done ((2 * line + (if dot == 0 then 0 else 1)) % 256)

-- the line of eight pixels at an address of 256 colours; the first is the highest bit
unfoldable pub read_nonzero_pixels_in_256_colours : ℕ → Plan ℕ
read_nonzero_pixels_in_256_colours address = fold (λ i line. shift_pixel_into_line (address + i) line) 8 0 0

-- which pixels of a line of a cell are not 0; in 16 colours the graphics controller compares the
-- planes with 0
unfoldable pub read_nonzero_pixels_plan : Kind → ℕ → Plan ℕ
read_nonzero_pixels_plan Text address = Done 0
read_nonzero_pixels_plan Planar address = do
  same ← get address
  Done (255 - same)
read_nonzero_pixels_plan Packed address = read_nonzero_pixels_in_256_colours address

-- the lines of a cell, which are read from the top
unfoldable pub read_lines_plan : ColumnBand → ℕ → Plan (List ℕ)
read_lines_plan cell row =
    gather (λ r. read_nonzero_pixels_plan cell.kind (byte_address_in_band cell row r 0)) cell.lines 0

-- the first character whose glyph has the dots of a cell, else 0
unfoldable pub read_character_plan : ColumnBand → ℕ → FontSet → Plan ℕ
read_character_plan cell row fonts = do
  set_read_write_mode_if_16_colours_plan cell.kind colour_compare_mode
  lines ← read_lines_plan cell row
  set_read_write_mode_if_16_colours_plan cell.kind write_and_read_mode_0
  Done (first_character_with_lines fonts cell.lines lines 256)
