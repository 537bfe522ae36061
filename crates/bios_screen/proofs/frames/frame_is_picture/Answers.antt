use Rattle.bios_screen.proofs.Dots.Drawing.{all_are_picture, frame_is_picture}
use Rattle.bios_screen.proofs.frames.frame_is_picture.Goals as goal

pub returns-clause-all : goal.returns-clause-all
returns-clause-all c = all_are_picture

pub returns-clause-whole : goal.returns-clause-whole
returns-clause-whole c = frame_is_picture
