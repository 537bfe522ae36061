use Rattle.std.proofs.Common.{arith, rules}
use Rattle.vga_show.proofs.TextLemmas.{joins}
use Rattle.vga_show.specs.Bda.{remaining_data_words}
use Rattle.vga_show.proofs.bda.push_remaining_data.Goals as goal

pub returns-clause-items : goal.returns-clause-items
unfolding remaining_data_words
returns-clause-items c = grind (arith, joins)

pub returns-clause-len : goal.returns-clause-len
unfolding remaining_data_words
returns-clause-len c = search rules
