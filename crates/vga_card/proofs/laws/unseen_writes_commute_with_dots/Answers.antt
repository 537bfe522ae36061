use Rattle.vga_card.proofs.OwedLemmas.{put_does_not_wait}
use Rattle.vga_card.proofs.laws.unseen_writes_commute_with_dots.Goals as goal

pub returns : goal.returns
returns c = put_does_not_wait c.dots_see_what_they_fetch.ensures
