use Rattle.vga_script.proofs.GrammarLemmas.{one_script_lem}
use Rattle.vga_script.proofs.laws.bytes_spell_one_script.Goals as goal

pub returns : goal.returns
returns c = one_script_lem
