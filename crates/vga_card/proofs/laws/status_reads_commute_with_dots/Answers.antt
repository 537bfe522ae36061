use Rattle.vga_card.proofs.OwedLemmas.{status_does_not_wait}
use Rattle.vga_card.proofs.laws.status_reads_commute_with_dots.Goals as goal

pub returns : goal.returns
returns c = status_does_not_wait
