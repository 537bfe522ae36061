use Rattle.std.proofs.Common.{rules}
use Rattle.vga_card.specs.Picture.{run_lengths}
use Rattle.vga_card.proofs.card.Card.beam.Goals as goal

pub returns-then-is_first_dot_of_frame-clause-beam : goal.returns-then-is_first_dot_of_frame-clause-beam
unfolding run_lengths
returns-then-is_first_dot_of_frame-clause-beam c = search rules

pub returns-then-is_first_dot_of_frame-clause-rows : goal.returns-then-is_first_dot_of_frame-clause-rows
unfolding run_lengths
returns-then-is_first_dot_of_frame-clause-rows c = search rules

pub returns-else-is_first_dot_of_frame-clause-beam : goal.returns-else-is_first_dot_of_frame-clause-beam
unfolding run_lengths
returns-else-is_first_dot_of_frame-clause-beam c = search rules

pub returns-else-is_first_dot_of_frame-clause-rows : goal.returns-else-is_first_dot_of_frame-clause-rows
unfolding run_lengths
returns-else-is_first_dot_of_frame-clause-rows c = search rules
