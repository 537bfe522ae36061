use Rattle.vga_crtc.proofs.Ends.{frame_ends}
use Rattle.vga_crtc.proofs.laws.frame_ends_with_its_dots.Goals as goal

pub returns : goal.returns
returns c = frame_ends
