-- What a frame of a plain screen leaves.
use Rattle.std.specs.Prelude.{◌≡◌, Some}
use Rattle.vga_crtc.specs.Raster.{IsFrameStart}
use Rattle.vga_card.specs.Picture.{picture_shape, bytes_of_dots}
use Rattle.vga_card.specs.Card.{CardState}
use Rattle.vga_card.specs.Frames.{frame}
use Rattle.bios_modes.specs.Bda.{BiosData}
use Rattle.bios_screen.specs.Screen.{Screen}
use Rattle.bios_screen.specs.Shown.{shown}
use Rattle.bios_screen.specs.Picture.{dot_colour_at, picture_width, picture_height, next_frame}
use Rattle.bios_screen.specs.Raster.{picture_bytes}

-- a frame draws the picture of the screen's active page, and leaves the screen with the next frame
-- number, again at the first dot of a frame
pub record FrameDrawsScreen (c : CardState) (d : BiosData) (s : Screen) : Type 0 where
  pub size : picture_shape (frame c).drawn ≡ Some (record {
    width = picture_width s;
    height = picture_height s;
  })
  pub colours : bytes_of_dots (frame c).drawn ≡ picture_bytes (picture_width s) (picture_height s)
      (dot_colour_at s s.page)
  pub next : shown (frame c) d ≡ Some (next_frame s)
  pub start : IsFrameStart (frame c).crtc.beam
