-- The default palettes: the DAC entries that a mode sets.
-- From the IBM PS/2 and PC BIOS Interface Technical Reference, "Interrupt 10H - Video", "Default
-- Palette"; the values are this adapter's choice.
use Rattle.std.specs.Prelude.{ℕ, Bool, ◌+◌, ◌-◌, ◌*◌, ◌/◌, ◌==◌, ◌&&◌, true, false, not, nat_lt}
use Rattle.std.specs.Prelude.{if◌then◌else◌, List, [], ◌∷◌, Option, Some, None}
use Rattle.std.specs.Int.{bit_at}
use Rattle.vga_bits.specs.Bits.{is_set, field}
use Rattle.bios_modes.specs.declared.modes.ModeRow.{ModeRow}
use Rattle.bios_modes.specs.declared.palette.Palette.{Palette}
use Rattle.bios_modes.specs.declared.palette.Palette.TheVariants.{Colours16, Colours64, Colours256}
use Rattle.bios_modes.specs.declared.palette.Palette.TheVariants.{Monochrome}
use Rattle.bios_modes.specs.Modes.{mode_row}

-- the three components of a colour: red, green and blue
abbrev pub rgb : ℕ → ℕ → ℕ → List ℕ
rgb red green blue = red ∷ green ∷ blue ∷ []

-- a component made of two bits of n: one adds two thirds of the full 3F, the other one third
abbrev pub component_of_two_bits : ℕ → ℕ → ℕ → ℕ
component_of_two_bits n strong weak = 0x2A * bit_at n strong + 0x15 * bit_at n weak

-- 64 colours: each component has two bits of the number
abbrev pub colour_of_six_bits : ℕ → List ℕ
colour_of_six_bits n =
    rgb (component_of_two_bits n 2 5) (component_of_two_bits n 1 4) (component_of_two_bits n 0 3)

-- 16 colours: each component has a bit of the number, and bit `bright` makes all brighter; dark
-- yellow is brown
abbrev pub colour_with_bright_bit : ℕ → ℕ → List ℕ
colour_with_bright_bit bright n =
    rgb (component_of_two_bits n 2 bright)
    (if (field n 2 0 == 6) && not (is_set n bright) then 0x15 else component_of_two_bits n 1 bright)
    (component_of_two_bits n 0 bright)

-- a grey, of three equal components
abbrev pub grey : ℕ → List ℕ
grey level = rgb level level level

-- black, or one of two greys
abbrev pub default_colour_in_monochrome_text : ℕ → List ℕ
default_colour_in_monochrome_text n = grey (if is_set n 3 then 0x2A + 0x15 * bit_at n 4 else 0)

-- 256 colours: 16 colours, 16 greys from black to white, and 224 colours whose number gives red and
-- green three bits each and blue two
abbrev pub default_colour_in_256_colours : ℕ → List ℕ
default_colour_in_256_colours n =
    if nat_lt n 0x10 then colour_with_bright_bit 3 n
    else if nat_lt n 0x20 then grey (63 * (n - 16) / 15)
    else rgb (9 * field n 7 5) (9 * field n 4 2) (21 * field n 1 0)

-- entry n of a palette
abbrev pub palette_entry : Palette → ℕ → List ℕ
palette_entry Colours64 n = colour_of_six_bits n
palette_entry Monochrome n = default_colour_in_monochrome_text n
palette_entry Colours16 n = colour_with_bright_bit 4 n
palette_entry Colours256 n = default_colour_in_256_colours n

-- the palette of a mode, by its row of the mode table; without a row, that of mode 3
abbrev pub default_palette_of_row : Option ModeRow → Palette
default_palette_of_row None = Colours64
default_palette_of_row (Some row) = row.palette

-- the palette of a mode, by its number
abbrev pub default_palette_of_mode : ℕ → Palette
default_palette_of_mode mode = default_palette_of_row (mode_row mode)

-- entry n of a mode's palette
abbrev pub dac_entry : ℕ → ℕ → List ℕ
dac_entry mode n = palette_entry (default_palette_of_mode mode) n

-- whether a palette has only black and greys
abbrev pub is_grey_palette : Palette → Bool
is_grey_palette Colours64 = false
is_grey_palette Monochrome = true
is_grey_palette Colours16 = false
is_grey_palette Colours256 = false

-- whether a mode is monochrome
abbrev pub is_monochrome_mode : ℕ → Bool
is_monochrome_mode mode = is_grey_palette (default_palette_of_mode mode)
