use Rattle.vga_card.proofs.FrameLemmas.{partly_taken_frame_ends_the_same}
use Rattle.vga_card.proofs.laws.partly_taken_frame_ends_the_same.Goals as goal

pub returns : goal.returns
returns c = partly_taken_frame_ends_the_same c.frame_ends_with_its_dots.ensures
