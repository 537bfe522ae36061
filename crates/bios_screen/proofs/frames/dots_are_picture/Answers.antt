use Rattle.bios_screen.proofs.Dots.Drawing.{dots_are_picture, dots_go_on, frame_is_ended, starts_at_0}
use Rattle.bios_screen.proofs.frames.dots_are_picture.Goals as goal

pub returns-clause-places : goal.returns-clause-places
returns-clause-places c = dots_are_picture

pub returns-clause-on : goal.returns-clause-on
returns-clause-on c = dots_go_on

pub returns-clause-ended : goal.returns-clause-ended
returns-clause-ended c = frame_is_ended

pub returns-clause-begun : goal.returns-clause-begun
returns-clause-begun c = starts_at_0
