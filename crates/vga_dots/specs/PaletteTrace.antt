-- What is told of the way from a dot's four bits to the number of its colour.
-- From the IBM PS/2 Hardware Interface Technical Reference, Video Subsystems, "Color Plane Enable
-- Register", "Internal Palette Registers" and "Color Select Register".
use Rattle.std.specs.Prelude.{◌≡◌, ◌+◌, ◌*◌, if◌then◌else◌, false, bit_and}
use Rattle.vga_bits.specs.Bits.{field}
use Rattle.vga_host.specs.Graphics.{is_256_colours}
use Rattle.vga_attr.specs.Fields.{palette, colour_plane_enable, is_colour_select_wide}
use Rattle.vga_attr.specs.Fields.{colour_select_middle, colour_select_high}
use Rattle.vga_attr.specs.Colour.{colour_index}
use Rattle.vga_dots.specs.declared.palette_trace.PaletteTrace.{PaletteTrace}
use Rattle.vga_dots.specs.Colour.{nibble}
use Rattle.vga_dots.specs.Display.{DisplayState}

-- The display is not in 256 colours, and this is told of the dot at the beam: its four bits; the
-- palette register that those of enabled planes select, and what it holds; and the two bits in the
-- middle and the two at the top of the number, with which the low four bits of the palette register
-- make the number of the colour.
pub record IsPaletteTrace (d : DisplayState) (told : PaletteTrace) : Type 0 where
  pub few : is_256_colours d.host ≡ false
  pub nibble : told.nibble ≡ nibble d.host d.crtc d.attr
  pub register : told.register ≡ bit_and told.nibble (colour_plane_enable d.attr)
  pub value : told.value ≡ palette d.attr told.register
  pub wide : told.is_colour_select_wide ≡ is_colour_select_wide d.attr
  pub middle : told.middle ≡ (if told.is_colour_select_wide then colour_select_middle d.attr
      else field told.value 5 4)
  pub high : told.high ≡ colour_select_high d.attr
  pub number : colour_index d.attr told.nibble ≡ field told.value 3 0 + 16 * told.middle + 64 * told.high
