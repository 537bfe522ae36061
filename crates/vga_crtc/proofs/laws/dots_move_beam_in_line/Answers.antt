use Rattle.vga_crtc.proofs.Parts.{beam_goes, line_whole}
use Rattle.vga_crtc.proofs.laws.dots_move_beam_in_line.Goals as goal

pub returns-clause-place : goal.returns-clause-place
returns-clause-place c = beam_goes

pub returns-clause-count : goal.returns-clause-count
returns-clause-count c = line_whole
