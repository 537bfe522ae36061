use Rattle.vga_crtc.proofs.Lines.{line_moves}
use Rattle.vga_crtc.proofs.laws.line_leads_to_next_line.Goals as goal

pub returns : goal.returns
returns c = line_moves
