use Rattle.bios_screen.proofs.Dots.OneDot.{rows_join, dots_follow, frame_follows}
use Rattle.bios_screen.proofs.Dots.BetweenDots.{begins, start_of}
use Rattle.bios_screen.proofs.any_dot.dots_follow_screens.Goals as goal

pub returns-clause-begins : goal.returns-clause-begins
returns-clause-begins c = begins

pub returns-clause-starts : goal.returns-clause-starts
returns-clause-starts c = start_of

pub returns-clause-dots : goal.returns-clause-dots
returns-clause-dots c = dots_follow

pub returns-clause-frame : goal.returns-clause-frame
returns-clause-frame c = frame_follows

pub returns-clause-joins : goal.returns-clause-joins
returns-clause-joins c = rows_join
