-- A frame of any screen draws the screen's picture.
use Rattle.std.proofs.Common.{◌≡◌, ◌+◌, ◌%◌, refl, sym, ap, subst, ◌∙◌, Some}
use Rattle.vga_crtc.specs.Crtc.{first_dot_of_frame}
use Rattle.vga_crtc.specs.Raster.{IsFrameStart}
use Rattle.vga_card.specs.declared.shape.Shape.{Shape}
use Rattle.bios_screen.proofs.Prelude.{IsCard, CardState, BiosData, Screen, shown, DrawsDotColours}
use Rattle.vga_card.specs.Frames.{frame}
use Rattle.bios_screen.specs.Picture.{dot_colour_at, picture_width}
use Rattle.bios_screen.specs.Raster.{picture_bytes}
use Rattle.bios_screen.specs.Framed.{FrameDrawsScreen}
use Rattle.bios_screen.proofs.Shows.Steady.{shown_moved, frame_shown}
use Rattle.bios_screen.proofs.Dots.Drawing.{frame_is_picture}
use Rattle.bios_screen.proofs.Dots.Any.{frames_of}

pub frame_drawn : (c : CardState) (d : BiosData) (s : Screen) → IsCard c → shown c d ≡ Some s → IsFrameStart c.crtc.beam → FrameDrawsScreen c d s
frame_drawn c d s z e start =
    let h = frames_of c d s z e in
    let m = h.raster in
    let f = dot_colour_at s s.page in
    let drawn = frame_is_picture m c f h.has start (subst (λ a. DrawsDotColours m c a f) (sym h.first) (h.draws s.page h.page)) in
    record {
      size = drawn.picture.shape
          ∙ ap (λ n. let x : Shape = record { width = n; height = m.height } in Some x) h.wide
          ∙ ap (λ n. let x : Shape = record { width = picture_width s; height = n } in Some x) h.high;
      colours = drawn.picture.bytes ∙ ap (λ n. picture_bytes n m.height f) h.wide ∙ ap (λ n. picture_bytes (picture_width s) n f) h.high;
      next = ap (λ x. shown x d) drawn.leaves ∙ shown_moved c d s (first_dot_of_frame ((c.crtc.beam.frame + 1) % 32)) (frame c).drawn e
          ∙ ap (λ n. let x : Screen = record s { frame = (n + 1) % 32 } in Some x) (sym (frame_shown c d s e));
      start = subst (λ (x : CardState). IsFrameStart x.crtc.beam) (sym drawn.leaves) (record { line = refl; character = refl; dot = refl });
    }
