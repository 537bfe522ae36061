-- Each dot of a frame in 256 colours is the screen's pixel.
use Rattle.std.proofs.Common.{◌≡◌, ℕ, ◌+◌, ◌*◌, ◌/◌, ◌%◌, ◌<◌, sym, ap, ◌∙◌, subst, arith, true, false}
use Rattle.std.specs.Prelude.{if◌then◌else◌, ◌&&◌, slice_index}
use Rattle.bios_screen.proofs.Prelude.{is_set, is_palette_shown, IsCard, CardState, bytes_320_by_200, is_mode_of_256_colours, BiosData, planar_pixel, pixel_of_256_colours}
use Rattle.bios_screen.proofs.Prelude.{pixel_screen, colour_by_palette, DrawsDotColours}
use Rattle.vga_planes.specs.Planes.{byte_at}
use Rattle.vga_host.specs.Sequencer.{is_screen_off}
use Rattle.vga_host.specs.Graphics.{is_256_colours}
use Rattle.vga_dots.specs.SourceDot.{source_dot, fetch_address}
use Rattle.vga_dots.specs.Graphics.{packed_byte}
use Rattle.vga_dots.specs.Colour.{colour_number, dot_colour}
use Rattle.bios_screen.specs.Shown.{palette_of_card}
use Rattle.bios_screen.specs.Picture.{colour_of_value, pixel_width, pixel_height, pixel_dot_colour}
use Rattle.bios_screen.proofs.Base.Tests.{lt_test, both_true}
use Rattle.bios_screen.proofs.Base.Setting.{Setting, setting}
use Rattle.bios_screen.proofs.Shows.Screens.{setting_by}
use Rattle.bios_screen.proofs.Modes.PixelModes.{setting_of, fetch_many}
use Rattle.bios_screen.proofs.Dots.PixelDots.{IsGraphics, placed, place, source_is, fetch_is, number_of_pixel, pixel, dot_is}

-- the adapter and the data show a screen of 256 colours
pub record IsPacked (c : CardState) (d : BiosData) : Type 0 where
  pub number : d.mode ≡ 0x13
  pub graphics : IsGraphics bytes_320_by_200 c d
  pub open graphics use *
  pub wide : graphics.raster.columns ≡ 80
  pub high : graphics.raster.height ≡ 400

module _ (c : CardState) (d : BiosData) (t : IsPacked c d) (z : IsCard c) (g : ℕ) (lg : g < 1) where
  set : setting c ≡ setting_of bytes_320_by_200
  set = setting_by bytes_320_by_200 c t.tests.memory

  screen_on : is_screen_off c.host ≡ false
  screen_on = ap (λ (s : Setting). is_set (slice_index s.seq 1) 5) set

  many_colours : is_256_colours c.host ≡ true
  many_colours = ap (λ (s : Setting). is_set (slice_index s.gfx 6) 0 && is_set (slice_index s.gfx 5) 6) set

  shown : is_palette_shown c.attr ≡ true
  shown = (both_true (is_palette_shown c.attr) _ t.tests.attribute).0

  -- the byte of dot i of character x of line v is the pixel
  byte_is : (v x i : ℕ) → v < t.raster.height → x < t.raster.columns → i < t.raster.dots → i < 8 →
      (let at = placed bytes_320_by_200 c d t.graphics g v x i in packed_byte c.host at (source_dot c.host at c.attr))
      ≡ pixel bytes_320_by_200 c d t.graphics g v x i
  unfolding packed_byte
  byte_is v x i lv lx li li8 =
      let m = c.host.memory in
      let at = placed bytes_320_by_200 c d t.graphics g v x i in
      let n = place bytes_320_by_200 c d t.graphics g v x in
      let q = number_of_pixel bytes_320_by_200 c d t.graphics v x i in
      let q_is : q ≡ 320 * (v / 2) + (x * 8 + i) / 2 = ap (λ j. 320 * (v / pixel_height j) + (x * 8 + i) / pixel_width j) t.number in
      let n_is : n ≡ 0xFA00 * g + (80 * (v / 2) + x) = ap (λ j. 0xFA00 * g + (t.raster.columns * (v / pixel_height j) + x)) t.number
      ∙ ap (λ w. 0xFA00 * g + (w * (v / 2) + x)) t.wide in
      let high = t.high in
      let wide = t.wide in
      let plane : i / 2 ≡ (0xFA00 * g + q) % 4 = omega arith in
      let there : 4 * n ≡ (0xFA00 * g + q) / 4 * 4 = omega arith in
      ap (packed_byte c.host at) (source_is bytes_320_by_200 c d t.graphics z g v x i lg lv lx li)
      ∙ ap (λ w. if w then byte_at m (i / 2) (fetch_address c.crtc.registers n) else 0) (lt_test i 8 li8)
      ∙ ap (byte_at m (i / 2)) (fetch_is bytes_320_by_200 c d t.graphics n ∙ fetch_many n (omega arith) ∙ there)
      ∙ ap (λ p. byte_at m p ((0xFA00 * g + q) / 4 * 4)) plane
      ∙ sym (ap (λ j. if is_mode_of_256_colours j then pixel_of_256_colours m (0xFA00 * g + q) else planar_pixel m (0xFA00 * g) q) t.number)

  pub draws : DrawsDotColours t.raster c (0xFA00 * g) (pixel_dot_colour (pixel_screen bytes_320_by_200 c d) g)
  unfolding dot_colour colour_number
  draws v x i lv lx li =
      let s = pixel_screen bytes_320_by_200 c d in
      let li8 : i < 8 = subst (λ n. i < n) t.picture.dots li in
      let p = pixel bytes_320_by_200 c d t.graphics g v x i in
      rw (screen_on, shown, many_colours) (ap (colour_of_value (palette_of_card c)) (byte_is v x i lv lx li li8))
      ∙ sym (dot_is bytes_320_by_200 c d t.graphics g v x i lg lv lx li8 ∙ ap (λ j. if is_mode_of_256_colours j then colour_of_value s.palette p else colour_by_palette s.palette p) t.number)
      ∙ ap (λ n. pixel_dot_colour s g (x * n + i) v) (sym t.picture.dots)
