use Rattle.vga_card.proofs.SavedLemmas.{AreCounted}
use Rattle.vga_card.proofs.canvas.saved.count_saved_dots.Given as goal

abbrev pub invariant-loop-line : goal.invariant-loop-line
invariant-loop-line l = AreCounted l.beam l.bytes l.line l.count
