use Rattle.vga_crtc.proofs.Dots.{dots_started}
use Rattle.vga_crtc.proofs.Ends.{same_count, same_frame_count}
use Rattle.vga_crtc.proofs.laws.start_is_taken_once.Goals as goal

pub returns-clause-dots : goal.returns-clause-dots
returns-clause-dots c = dots_started

pub returns-clause-line : goal.returns-clause-line
returns-clause-line c = same_count

pub returns-clause-frame : goal.returns-clause-frame
returns-clause-frame c = same_frame_count
