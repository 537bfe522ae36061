-- The frames of every shown screen, in text and in graphics.
use Rattle.std.proofs.Common.{◌≡◌, ℕ, ◌+◌, ◌*◌, ◌<◌, refl, sym, ap, subst, ◌∙◌, arith}
use Rattle.std.specs.Prelude.{if◌then◌else◌, Some}
use Rattle.bios_screen.proofs.Prelude.{first_counter, IsCard, CardState, ModeRow, bytes_320_by_200, BiosData, start_address, Screen, pixel_screen, shown}
use Rattle.bios_screen.proofs.Prelude.{Raster, DrawsDotColours}
use Rattle.bios_screen.specs.Picture.{text_dot_colour, pixel_dot_colour, dot_colour_at, pixel_width, picture_width, picture_height}
use Rattle.bios_screen.specs.Raster.{HasRaster, shown_dots_of_line, all_dots_of_line as dots_of_line}
use Rattle.bios_screen.specs.Drawing.{dots_a_line, lines_a_frame, columns_of_mode}
use Rattle.bios_screen.proofs.Modes.TextModes.{Display, number_of as text_number}
use Rattle.bios_screen.proofs.Modes.TextModes.Display.{Colour, Monochrome}
use Rattle.bios_screen.proofs.Shows.Screens.{IsShown, screen_shown, all_of}
use Rattle.bios_screen.proofs.Shows.Kinds.{by_modes}
use Rattle.bios_screen.proofs.Dots.Frames as frames
use Rattle.bios_screen.proofs.Dots.TextRows.{text_raster, frame_of}
use Rattle.bios_screen.proofs.Dots.TextPictures as text
use Rattle.bios_screen.proofs.Dots.PixelDots.{IsGraphics}
use Rattle.bios_screen.proofs.Dots.PixelDots as pixels
use Rattle.bios_screen.proofs.Dots.PlanarDots as planar
use Rattle.bios_screen.proofs.Dots.PackedDots as packed

-- the adapter's frames have the numbers of the mode; a frame of any page draws that page; and the
-- next frame is of the active page
pub record HasFrames (c : CardState) (d : BiosData) (s : Screen) : Type 0 where
  pub raster : Raster
  pub has : HasRaster raster c
  pub line : dots_of_line raster ≡ dots_a_line s.mode
  pub lines : raster.lines ≡ lines_a_frame s.mode
  pub wide : shown_dots_of_line raster ≡ picture_width s
  pub high : raster.height ≡ picture_height s
  pub page : s.page < s.layout.pages
  pub draws : (g : ℕ) → g < s.layout.pages → DrawsDotColours raster c (start_address d g) (dot_colour_at s g)
  pub first : first_counter c.crtc.registers ≡ start_address d s.page

-- ---- text

text_lines : (disp : Display) → lines_a_frame (text_number disp) ≡ 449
text_lines Colour = refl
text_lines Monochrome = refl

text_frames : (c : CardState) (d : BiosData) (h : IsShown c d) → IsCard c → HasFrames c d (screen_shown c d h)
text_frames c d h z =
    let s = screen_shown c d h in
    let t = h.tests in
    let row = h.row in
    record {
      raster = text_raster row;
      has = frames.has_raster (text_raster row) row (frame_of c d h).frame c d (all_of row c d t);
      line = sym (ap (λ b. if b then 900 else 10 * (pixel_width d.mode * columns_of_mode d.mode)) t.is_text);
      lines = sym (ap lines_a_frame h.number ∙ text_lines h.display);
      wide = rw (t.is_text, h.has.columns) (omega arith);
      high = rw (t.is_text, h.has.height, h.has.last_row) refl;
      page = h.has.page;
      draws = λ g lg. subst (λ a. DrawsDotColours (text_raster row) c a (dot_colour_at s g)) (sym (text.start_is c d h z g)) (text.draws c d h z g lg);
      first = text.first_is c d h z;
    }

-- ---- graphics

pixel_frames : (row : ModeRow) (c : CardState) (d : BiosData) (t : IsGraphics row c d) →
    ((g : ℕ) → g < row.pages → DrawsDotColours t.raster c (row.size * g) (pixel_dot_colour (pixel_screen row c d) g)) → HasFrames c d (pixel_screen row c d)
pixel_frames row c d t draws =
    let s = pixel_screen row c d in
    let m = t.raster in
    record {
      raster = m;
      has = pixels.has_raster row c d t;
      line = t.picture.line;
      lines = t.picture.lines;
      wide = rw (t.text, t.has.columns) t.picture.wide;
      high = rw (t.text, t.has.height, t.has.last_row) t.picture.high;
      page = t.has.page;
      draws = λ g lg. subst (λ a. DrawsDotColours m c a (dot_colour_at s g)) (sym (pixels.start_is row c d t g)) (λ v x i lv lx li.
          draws g lg v x i lv lx li
          ∙ sym (ap (λ b. if b then text_dot_colour s g (x * m.dots + i) v else pixel_dot_colour s g (x * m.dots + i) v) t.text));
      first = pixels.first_is row c d t;
    }

-- ---- any mode

pub frames_of : (c : CardState) (d : BiosData) (s : Screen) → IsCard c → shown c d ≡ Some s → HasFrames c d s
frames_of c d s z e = by_modes c d (HasFrames c d) (λ h. text_frames c d h z) (λ row t. pixel_frames row c d t.graphics (planar.draws row c d t z)) (λ t.
    pixel_frames bytes_320_by_200 c d t.graphics (packed.draws c d t z)) s e
