use Rattle.std.proofs.Common.{arith, rules}
use Rattle.vga_show.proofs.TextLemmas.{joins}
use Rattle.vga_show.specs.Beam.{beam_counter_words}
use Rattle.vga_show.proofs.beam.push_beam_counters.Goals as goal

pub returns-clause-items : goal.returns-clause-items
unfolding beam_counter_words
returns-clause-items c = grind (arith, joins)

pub returns-clause-len : goal.returns-clause-len
unfolding beam_counter_words
returns-clause-len c = search rules
