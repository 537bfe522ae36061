use Rattle.vga_crtc.proofs.Frames.{beam_goes_on, started_goes_on}
use Rattle.vga_crtc.proofs.laws.dots_move_beam_in_frame.Goals as goal

pub returns-clause-dots : goal.returns-clause-dots
returns-clause-dots c = beam_goes_on

pub returns-clause-any : goal.returns-clause-any
returns-clause-any c = started_goes_on
