use Rattle.vga_card.proofs.HiddenLemmas.{out_does_not_wait, out_word_does_not_wait}
use Rattle.vga_card.proofs.laws.hidden_writes_commute_with_dots.Goals as goal

pub returns-clause-byte : goal.returns-clause-byte
returns-clause-byte c = out_does_not_wait c.dots_see_four_registers.ensures

pub returns-clause-word : goal.returns-clause-word
returns-clause-word c = out_word_does_not_wait c.dots_see_four_registers.ensures
