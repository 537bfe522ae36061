-- The pixel at each dot of a graphics frame, in sixteen colours or 256.
use Rattle.std.proofs.Common.{◌≡◌, ℕ, ◌+◌, ◌*◌, ◌/◌, ◌%◌, ◌<◌, refl, sym, ap, subst, ◌∙◌, List, [], get_or}
use Rattle.std.specs.Prelude.{if◌then◌else◌, slice_index}
use Rattle.bios_screen.proofs.Prelude.{Four, CrtcState, first_counter, beam_at_place_of_regular_frame, IsCard, CardState, ModeRow, BiosData, is_mode_of_256_colours, start_address, Screen}
use Rattle.bios_screen.proofs.Prelude.{pixel_in, pixel_screen, colour_by_palette}
use Rattle.vga_dots.specs.declared.source_dot.SourceDot.{SourceDot}
use Rattle.vga_dots.specs.SourceDot.{source_dot, fetch_address}
use Rattle.bios_screen.specs.Shown.{pixels_in, pixel_pages}
use Rattle.bios_screen.specs.Picture.{colour_of_value, pixel_width, pixel_height, pixel_at_position, pixel_dot_colour}
use Rattle.bios_screen.specs.Raster.{HasRaster}
use Rattle.bios_screen.proofs.Base.Lists.{listed_at}
use Rattle.bios_screen.proofs.Shows.Screens.{HasData, AllTests}
use Rattle.bios_screen.proofs.Modes.PixelModes.{IsGraphicsRow, pixels_of, page_begins}
use Rattle.bios_screen.proofs.Dots.Frames as frames

-- pixel k of page p, from the list of pages
pub pixel_at : (mode : ℕ) (m : Four (List ℕ)) (size n pages p k : ℕ) → p < pages → k < n →
    slice_index (get_or (pixel_pages mode m size n pages) p []) k ≡ pixel_in mode m (size * p) k
unfolding pixel_pages pixels_in
pixel_at mode m size n pages p k lp lk =
    ap (λ l. slice_index l k) (listed_at (λ q. pixels_in mode m (size * q) n) pages p [] lp) ∙ listed_at (pixel_in mode m (size * p)) n k 0 lk

-- the adapter and the data show a screen of this graphics row
pub record IsGraphics (row : ModeRow) (c : CardState) (d : BiosData) : Type 0 where
  pub says : IsGraphicsRow d.mode row
  pub open says use *
  pub tests : AllTests row c d
  pub has : HasData row d

module _ (row : ModeRow) (c : CardState) (d : BiosData) (t : IsGraphics row c d) where
  abbrev s : Screen
  s = pixel_screen row c d

  abbrev columns : ℕ
  columns = row.columns

  abbrev tall : ℕ
  tall = pixel_height d.mode

  -- ---- the frame

  pub start_is : (g : ℕ) → start_address d g ≡ row.size * g
  start_is g = ap (λ b. if b then d.size * g / 2 else d.size * g) t.text ∙ ap (λ n. n * g) t.has.size

  pub has_raster : HasRaster t.raster c
  has_raster = frames.has_raster t.raster row t.frame c d t.tests

  pub first_is : first_counter c.crtc.registers ≡ start_address d d.page
  first_is = frames.first_is t.raster row t.frame c d t.tests (subst (λ n. n < 65536) (sym (start_is d.page)) (page_begins row t.room d.page t.has.page))

  -- ---- dot i of character x of line v of page g

  -- the CRT controller at that dot, and the counter there
  abbrev pub placed : ℕ → ℕ → ℕ → ℕ → CrtcState
  placed g v x i = record c.crtc { beam = beam_at_place_of_regular_frame c.crtc.registers (row.size * g) c.crtc.beam.frame v x i }

  abbrev pub place : ℕ → ℕ → ℕ → ℕ
  place g v x = row.size * g + (t.raster.columns * (v / tall) + x)

  pub source_is : IsCard c → (g v x i : ℕ) → g < row.pages → v < t.raster.height → x < t.raster.columns → i < t.raster.dots →
      source_dot c.host (placed g v x i) c.attr ≡ record { counter = place g v x; dot = i }
  source_is z g v x i lg lv lx li =
      let a = row.size * g in
      let beam = frames.beam_is t.raster row t.frame c d t.tests a 0 v 0 0 in
      frames.source_is t.raster row t.frame c d t.tests z (beam_at_place_of_regular_frame c.crtc.registers a c.crtc.beam.frame v x i) refl li
      ∙ ap (λ n. let q : SourceDot = record { counter = n; dot = i } in q) (ap (λ b. (b.base + x) % 65536) beam ∙ t.places.counter g v x lg lv lx)

  pub fetch_is : (n : ℕ) → fetch_address c.crtc.registers n ≡ fetch_address row.crtc n
  fetch_is = frames.fetch_is t.raster row t.frame c d t.tests

  -- the pixel at that dot; the mode decides how many dots and lines a pixel has
  abbrev pub number_of_pixel : ℕ → ℕ → ℕ → ℕ
  number_of_pixel v x i = 8 * columns * (v / tall) + (x * 8 + i) / pixel_width d.mode

  abbrev pub pixel : ℕ → ℕ → ℕ → ℕ → ℕ
  pixel g v x i = pixel_in d.mode c.host.memory (row.size * g) (number_of_pixel v x i)

  pixel_is : (g v x i : ℕ) → g < row.pages → v < t.raster.height → x < t.raster.columns → i < 8 →
      pixel_at_position s g ((x * 8 + i) / pixel_width d.mode) (v / tall) ≡ pixel g v x i
  pixel_is g v x i lg lv lx li =
      rw (t.has.columns, t.has.height, t.has.last_row, t.has.size) (pixel_at d.mode c.host.memory row.size
      (pixels_of row) row.pages g (number_of_pixel v x i) lg (t.places.pixel v x i lv lx li))

  pub dot_is : (g v x i : ℕ) → g < row.pages → v < t.raster.height → x < t.raster.columns → i < 8 →
      pixel_dot_colour s g (x * 8 + i) v ≡ (if is_mode_of_256_colours d.mode then colour_of_value s.palette (pixel g v x i) else colour_by_palette s.palette (pixel g v x i))
  unfolding pixel_dot_colour
  dot_is g v x i lg lv lx li = ap (λ p. if is_mode_of_256_colours d.mode then colour_of_value s.palette p else colour_by_palette s.palette p) (pixel_is g v x i lg lv lx li)
