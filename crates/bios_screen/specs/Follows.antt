-- The adapter follows a plain screen with its beam, dot by dot.
-- From the IBM PS/2 Hardware Interface Technical Reference, Video Subsystems.
use Rattle.std.specs.Prelude.{ℕ, zero, suc, ◌≡◌, ◌+◌, ◌<◌, ◌≤◌, ◌/◌, if◌then◌else◌, List, [], ◌∷◌}
use Rattle.std.specs.Prelude.{◌++◌, Some}
use Rattle.vga_crtc.specs.Raster.{IsFrameStart, beam_at_dot_of_frame}
use Rattle.vga_card.specs.Card.{CardState}
use Rattle.vga_card.specs.Dots.{character_width, dots_of_frame_so_far, dots}
use Rattle.vga_card.specs.Frames.{frame}
use Rattle.vga_card.specs.Picture.{lines_of_dots, bytes_of_dots, picture_shape}
use Rattle.bios_modes.specs.Bda.{BiosData}
use Rattle.bios_services.specs.Cursor.{start_address}
use Rattle.bios_screen.specs.Screen.{Screen}
use Rattle.bios_screen.specs.Shown.{shown}
use Rattle.bios_screen.specs.Picture.{picture_width, picture_height}
use Rattle.bios_screen.specs.Raster.{concatenated_lists}
use Rattle.bios_screen.specs.Drawing.{Drawing, dots_a_line, total_dots_of_frame_in_mode, page_shown}
use Rattle.bios_screen.specs.Drawing.{picture_so_far}
use Rattle.bios_screen.specs.Drawing.{is_picture_dot, colour_of_frame_dot, take_frame}

-- the beam is at dot n of a frame whose counter began at `start`; at dot 0, the frame has not begun
abbrev pub BeamIsAtDotOfFrameFromAddress : CardState → ℕ → ℕ → Type 0
BeamIsAtDotOfFrameFromAddress c start zero = IsFrameStart c.crtc.beam
BeamIsAtDotOfFrameFromAddress c start (suc n) =
    c.crtc.beam ≡ beam_at_dot_of_frame (character_width c) c.crtc.registers start
    c.crtc.beam.frame (suc n)

-- dots from dot n of a frame of this page on join what is drawn of the frame, up to its end
abbrev pub DotsJoinPicture : CardState → Screen → ℕ → ℕ → Type 0
DotsJoinPicture c s page n = (j : ℕ) → 0 < j → n + j ≤ total_dots_of_frame_in_mode s.mode →
    bytes_of_dots (dots j c).drawn ≡ bytes_of_dots (dots_of_frame_so_far c) ++ concatenated_lists
    (λ i. colour_of_frame_dot s page (n + i)) j

-- the line of each dot of the picture among the first n dots of a frame
unfoldable pub lines_of_picture_dots_before : Screen → ℕ → List ℕ
lines_of_picture_dots_before s zero = []
lines_of_picture_dots_before s (suc n) =
    lines_of_picture_dots_before s n ++ (if is_picture_dot s n then n / dots_a_line s.mode ∷ []
    else [])

-- the adapter shows the screen, its beam is at the next dot of a frame of the page, and it has
-- drawn the picture so far
pub record CardFollowsDrawing (c : CardState) (d : BiosData) (b : Drawing) : Type 0 where
  pub shows : shown c d ≡ Some b.screen
  pub within : b.dot < total_dots_of_frame_in_mode b.screen.mode
  pub page : page_shown b < b.screen.layout.pages
  pub at : BeamIsAtDotOfFrameFromAddress c (start_address d (page_shown b)) b.dot
  pub lines : lines_of_dots (dots_of_frame_so_far c) ≡ lines_of_picture_dots_before b.screen b.dot
  pub bytes : bytes_of_dots (dots_of_frame_so_far c) ≡ picture_so_far b

-- the frame ends with the picture so far and the dots that remained, and dot 0 of the next follows
pub record EndsFrame (c : CardState) (d : BiosData) (b : Drawing) : Type 0 where
  pub size : picture_shape (frame c).drawn ≡ Some (record {
    width = picture_width b.screen;
    height = picture_height b.screen;
  })
  pub bytes : bytes_of_dots (frame c).drawn ≡ (take_frame b).picture
  pub follows : CardFollowsDrawing (frame c) d (take_frame b)
