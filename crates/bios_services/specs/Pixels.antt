-- Writing and reading a pixel: functions 0C and 0D.
-- From the IBM PS/2 and PC BIOS Interface Technical Reference, "Interrupt 10H - Video", (AH) = 0CH
-- and 0DH; the order of the cycles is this adapter's choice.
use Rattle.std.specs.Prelude.{ℕ, ◌+◌, ◌-◌, ◌*◌, ◌/◌, ◌%◌, ◌^◌, if◌then◌else◌}
use Rattle.std.specs.Int.{bit_at}
use Rattle.vga_bits.specs.Bits.{is_set}
use Rattle.bios_modes.specs.Bda.{BiosData}
use Rattle.bios_modes.specs.Kinds.{is_mode_of_256_colours}
use Rattle.bios_services.specs.Plan.{Plan, Done, ◌>>=◌, ◌>>◌, put, get}
use Rattle.bios_services.specs.Cycles.{write_graphics}
use Rattle.bios_services.specs.Cells.{page_address}
use Rattle.bios_services.specs.VideoRegisters.{data_rotate_index, bit_mask_index, xor_function}
use Rattle.bios_services.specs.VideoRegisters.{replace_function, graphics_mode_index}
use Rattle.bios_services.specs.VideoRegisters.{colour_write_mode, write_and_read_mode_0, all_bits}
use Rattle.bios_services.specs.VideoRegisters.{read_map_select_index}

-- how many pixels a graphics mode has across
abbrev pub pixels_across : BiosData → ℕ
pixels_across d = 8 * d.columns

-- how many pixels a graphics mode has down
abbrev pub pixels_down : BiosData → ℕ
pixels_down d = d.height * (d.last_row + 1)

-- the address of a pixel: in 256 colours a byte is one pixel, in 16 a byte of each plane is eight
abbrev pub pixel_address : BiosData → ℕ → ℕ → ℕ → ℕ
pixel_address d page x y = page_address d page + (if is_mode_of_256_colours d.mode then pixels_across d * y + x
    else d.columns * y + x / 8)

-- the function that combines data with the latches is set, if bit 7 of a colour asks for XOR
abbrev pub set_function_if_xor_plan : ℕ → ℕ → Plan (Unit {0})
set_function_if_xor_plan colour function =
    if is_set colour 7 then write_graphics data_rotate_index function else Done tt

-- a pixel is written in 16 colours: its bit only, in write mode 2, over what was read
unfoldable pub write_planar_pixel_plan : ℕ → ℕ → ℕ → Plan (Unit {0})
write_planar_pixel_plan address x colour = do
  write_graphics bit_mask_index (0x80 / 2 ^ (x % 8))
  set_function_if_xor_plan colour xor_function
  get address
  write_graphics graphics_mode_index colour_write_mode
  put address colour
  write_graphics graphics_mode_index write_and_read_mode_0
  set_function_if_xor_plan colour replace_function
  write_graphics bit_mask_index all_bits

-- 0C: the pixel at column x and line y of a page is written
unfoldable pub write_pixel_plan : BiosData → ℕ → ℕ → ℕ → ℕ → Plan (Unit {0})
write_pixel_plan d page x y colour =
    if is_mode_of_256_colours d.mode then put (pixel_address d page x y) colour
    else write_planar_pixel_plan (pixel_address d page x y) x colour

-- the byte of a plane is read, after its number went to read map select
abbrev pub read_plane_byte : ℕ → ℕ → Plan ℕ
read_plane_byte plane address = do
  write_graphics read_map_select_index plane
  get address

-- a pixel is read in 16 colours: its bit of each plane, plane 0 lowest
unfoldable pub read_planar_pixel_plan : ℕ → ℕ → Plan ℕ
read_planar_pixel_plan address x = do
  b0 ← read_plane_byte 0 address
  b1 ← read_plane_byte 1 address
  b2 ← read_plane_byte 2 address
  b3 ← read_plane_byte 3 address
  write_graphics read_map_select_index 0
  Done (bit_at b0 (7 - x % 8) + 2 * bit_at b1 (7 - x % 8) + 4 * bit_at b2 (7 - x % 8)
      + 8 * bit_at b3 (7 - x % 8))

-- 0D: the pixel at column x and line y of a page is read
unfoldable pub read_pixel_plan : BiosData → ℕ → ℕ → ℕ → Plan ℕ
read_pixel_plan d page x y =
    if is_mode_of_256_colours d.mode then get (pixel_address d page x y)
    else read_planar_pixel_plan (pixel_address d page x y) x
