use Rattle.vga_card.proofs.FrameLemmas.{frame_takes_fewest_dots}
use Rattle.vga_card.proofs.laws.frame_takes_fewest_dots.Goals as goal

pub returns : goal.returns
returns c = frame_takes_fewest_dots c.frame_ends_with_its_dots.ensures
