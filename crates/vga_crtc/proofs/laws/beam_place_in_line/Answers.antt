use Rattle.vga_crtc.proofs.Lines.{beam_in_line}
use Rattle.vga_crtc.proofs.Ends.{from_line_start}
use Rattle.vga_crtc.proofs.laws.beam_place_in_line.Goals as goal

pub returns-clause-place : goal.returns-clause-place
returns-clause-place c = beam_in_line

pub returns-clause-count : goal.returns-clause-count
returns-clause-count c = from_line_start
