-- Each dot of a frame in sixteen colours is the screen's pixel.
use Rattle.std.proofs.Common.{◌≡◌, ℕ, ◌+◌, ◌-◌, ◌*◌, ◌/◌, ◌%◌, ◌<◌, refl, sym, ap, subst, ◌∙◌, arith, true}
use Rattle.std.specs.Prelude.{if◌then◌else◌, slice_index}
use Rattle.std.specs.Int.{bit_at}
use Rattle.std.proofs.lemmas.Nat.{div-mul-add, mod-mul-add}
use Rattle.std.proofs.lemmas.Nat.Bits.{bit_at-lt}
use Rattle.bios_screen.proofs.Prelude.{is_set, HostState, IsCard, CardState, ModeRow, BiosData, planar_pixel, pixel_screen, colour_by_palette, DrawsDotColours}
use Rattle.vga_planes.specs.Planes.{byte_at}
use Rattle.vga_host.specs.Graphics.{is_graphics}
use Rattle.vga_dots.specs.Graphics.{plane_bits, planar_nibble}
use Rattle.vga_dots.specs.Colour.{nibble}
use Rattle.bios_screen.specs.Picture.{colour_of_value, pixel_height, pixel_dot_colour}
use Rattle.bios_screen.proofs.Base.Tests.{lt_test}
use Rattle.bios_screen.proofs.Base.Setting.{Setting}
use Rattle.bios_screen.proofs.Shows.Screens.{setting_by}
use Rattle.bios_screen.proofs.Dots.Colours.{coloured, dot_shade}
use Rattle.bios_screen.proofs.Modes.Frames.{HasShades}
use Rattle.bios_screen.proofs.Modes.PixelModes.{HasPlanes}
use Rattle.bios_screen.proofs.Dots.PixelDots.{IsGraphics, placed, place, pixel, source_is, fetch_is, dot_is}

-- the adapter and the data show a screen of this row of sixteen colours
pub record IsPlanar (row : ModeRow) (c : CardState) (d : BiosData) : Type 0 where
  pub graphics : IsGraphics row c d
  pub open graphics use *
  pub planes : HasPlanes d.mode row graphics.raster
  pub open planes use *
  pub shades : HasShades row

-- ---- pixels by their numbers

bits_at : (h : HostState) (z k : ℕ) → planar_pixel h.memory z k ≡ plane_bits h (z + k / 8) (7 - k % 8)
unfolding plane_bits
bits_at h z k = refl

-- the pixel at dot k of character x of line y
pixel_there : (h : HostState) (z w y x k : ℕ) → k < 8 → planar_pixel h.memory z (8 * w * y + (x * 8 + k) / 1) ≡ plane_bits h (z + (w * y + x)) (7 - k)
pixel_there h z w y x k lk =
    let n = w * y + x in
    let e : 8 * w * y + (x * 8 + k) / 1 ≡ n * 8 + k = omega arith in
    bits_at h z (8 * w * y + (x * 8 + k) / 1)
    ∙ ap (λ i. plane_bits h (z + i / 8) (7 - i % 8)) e
    ∙ ap (λ i. plane_bits h (z + i) (7 - (n * 8 + k) % 8)) (div-mul-add n 8 k lk)
    ∙ ap (λ i. plane_bits h (z + n) (7 - i)) (mod-mul-add n 8 k lk)

bits_small : (a b e f : ℕ) → a < 2 → b < 2 → e < 2 → f < 2 → a + 2 * b + 4 * e + 8 * f < 16
bits_small a b e f la lb le lf = omega arith

plane_bits_small : (h : HostState) (address i : ℕ) → plane_bits h address i < 16
unfolding plane_bits
plane_bits_small h address i = bits_small (bit_at (byte_at h.memory 0 address) i) (bit_at (byte_at h.memory 1 address) i)
    (bit_at (byte_at h.memory 2 address) i) (bit_at (byte_at h.memory 3 address) i) (bit_at-lt (byte_at h.memory 0 address) i)
    (bit_at-lt (byte_at h.memory 1 address) i) (bit_at-lt (byte_at h.memory 2 address) i) (bit_at-lt (byte_at h.memory 3 address) i)

module _ (row : ModeRow) (c : CardState) (d : BiosData) (t : IsPlanar row c d) (z : IsCard c) (g : ℕ) (lg : g < row.pages) where
  graphics_on : is_graphics c.host ≡ true
  graphics_on = ap (λ (s : Setting). is_set (slice_index s.gfx 6) 0) (setting_by row c t.tests.memory ∙ t.setting)

  -- the four bits of dot i of character x of line v
  abbrev bits : ℕ → ℕ → ℕ → ℕ
  bits v x i = plane_bits c.host (place row c d t.graphics g v x) (7 - i)

  dot_bits : (v x i : ℕ) → v < t.raster.height → x < t.raster.columns → i < t.raster.dots → i < 8 →
      nibble c.host (placed row c d t.graphics g v x i) c.attr ≡ bits v x i
  unfolding nibble planar_nibble
  dot_bits v x i lv lx li li8 =
      let n = place row c d t.graphics g v x in
      rw (graphics_on, source_is row c d t.graphics z g v x i lg lv lx li, lt_test i 8 li8, fetch_is row c d t.graphics n, t.fetch n) refl

  -- they are the pixel's
  pixel_bits : (v x i : ℕ) → i < 8 → pixel row c d t.graphics g v x i ≡ bits v x i
  pixel_bits v x i li = rw (t.packed, t.columns) (pixel_there c.host (row.size * g) row.columns (v / pixel_height d.mode) x i li)

  pub draws : DrawsDotColours t.raster c (row.size * g) (pixel_dot_colour (pixel_screen row c d) g)
  draws v x i lv lx li =
      let s = pixel_screen row c d in
      let li8 : i < 8 = subst (λ n. i < n) t.picture.dots li in
      let p = pixel row c d t.graphics g v x i in
      dot_shade c (coloured row c d t.shades t.frame.attributes t.tests z) z (placed row c d t.graphics g v x i) (bits v x i)
      (dot_bits v x i lv lx li li8) (plane_bits_small c.host (place row c d t.graphics g v x) (7 - i))
      ∙ ap (colour_by_palette s.palette) (sym (pixel_bits v x i li8))
      ∙ sym (dot_is row c d t.graphics g v x i lg lv lx li8 ∙ ap (λ b. if b then colour_of_value s.palette p else colour_by_palette s.palette p) t.packed)
      ∙ ap (λ n. pixel_dot_colour s g (x * n + i) v) (sym t.picture.dots)
