use Rattle.vga_script.proofs.GrammarLemmas.{one_spelling_lem, encoding_spells}
use Rattle.vga_script.proofs.laws.script_has_one_spelling.Goals as goal

pub returns : goal.returns
returns c = record { one = one_spelling_lem; some = encoding_spells }
