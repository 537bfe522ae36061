use Rattle.std.proofs.Common.{rules}
use Rattle.vga_crtc.proofs.beam.Beam.take_start.Goals as goal

pub returns-then-is_first_dot_of_frame-clause-value : goal.returns-then-is_first_dot_of_frame-clause-value
returns-then-is_first_dot_of_frame-clause-value c = search rules

pub returns-then-is_first_dot_of_frame-clause-place : goal.returns-then-is_first_dot_of_frame-clause-place
returns-then-is_first_dot_of_frame-clause-place c = search rules

pub returns-else-is_first_dot_of_frame-clause-value : goal.returns-else-is_first_dot_of_frame-clause-value
returns-else-is_first_dot_of_frame-clause-value c = search rules

pub returns-else-is_first_dot_of_frame-clause-place : goal.returns-else-is_first_dot_of_frame-clause-place
returns-else-is_first_dot_of_frame-clause-place c = search rules
