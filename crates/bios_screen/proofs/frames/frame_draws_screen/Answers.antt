use Rattle.bios_screen.proofs.Dots.Pictures.{frame_drawn}
use Rattle.bios_screen.proofs.frames.frame_draws_screen.Goals as goal

pub returns : goal.returns
returns c = frame_drawn
