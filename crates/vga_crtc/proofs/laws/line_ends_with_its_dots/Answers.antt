use Rattle.vga_crtc.proofs.Ends.{line_ends}
use Rattle.vga_crtc.proofs.laws.line_ends_with_its_dots.Goals as goal

pub returns : goal.returns
returns c = line_ends
