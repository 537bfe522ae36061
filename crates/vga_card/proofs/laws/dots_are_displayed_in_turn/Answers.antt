use Rattle.vga_card.proofs.FrameLemmas.{dots_are_places}
use Rattle.vga_card.proofs.laws.dots_are_displayed_in_turn.Goals as goal

pub returns : goal.returns
returns c = dots_are_places c.frame_ends_with_its_dots.ensures
