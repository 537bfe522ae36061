-- What frames of a plain screen are, whichever adapter shows it.
use Rattle.std.specs.Prelude.{ℕ, ◌≡◌, ◌+◌, ◌-◌, ◌<◌, ◌≤◌, ◌++◌}
use Rattle.bios_screen.specs.Screen.{Screen}
use Rattle.bios_screen.specs.Picture.{dot_colour_at, picture_width, picture_height, next_frame}
use Rattle.bios_screen.specs.Raster.{concatenated_lists, picture_bytes}
use Rattle.bios_screen.specs.Drawing.{Drawing, dots_a_line, lines_a_frame, total_dots_of_frame_in_mode, page_shown}
use Rattle.bios_screen.specs.Drawing.{picture_so_far, colour_of_frame_dot, take_dots, take_frame}

-- the picture lies within the lines of a frame
pub record PictureFitsFrame (s : Screen) : Type 0 where
  pub narrow : picture_width s ≤ dots_a_line s.mode
  pub low : picture_height s ≤ lines_a_frame s.mode

-- a frame ends with the first dot, at least one, after which dot 0 comes; it leaves the screen with
-- the next frame number, and its picture is the one so far and the dots that remained
pub record FrameEndsAtDotZero (b : Drawing) : Type 0 where
  pub dot : (take_frame b).dot ≡ 0
  pub first : (m : ℕ) → 0 < m → m < total_dots_of_frame_in_mode b.screen.mode - b.dot → ¬ ((take_dots m b).dot ≡ 0)
  pub screen : (take_frame b).screen ≡ next_frame b.screen
  pub picture : (take_frame b).picture ≡ picture_so_far b ++ concatenated_lists (λ i.
      colour_of_frame_dot b.screen (page_shown b) (b.dot + i)) (total_dots_of_frame_in_mode b.screen.mode - b.dot)

-- a frame from dot 0 on is the picture of the active page
abbrev pub FrameIsWholePicture : Drawing → Type 0
FrameIsWholePicture b = (take_frame b).picture ≡ picture_bytes (picture_width b.screen)
    (picture_height b.screen) (dot_colour_at b.screen b.screen.page)
