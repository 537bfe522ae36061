use Rattle.vga_crtc.proofs.Moves.{dot_moves}
use Rattle.vga_crtc.proofs.laws.dot_leads_to_next_place.Goals as goal

pub returns : goal.returns
returns c = dot_moves
