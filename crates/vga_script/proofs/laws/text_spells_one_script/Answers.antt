use Rattle.vga_script.proofs.TextLemmas.{one_text}
use Rattle.vga_script.proofs.laws.text_spells_one_script.Goals as goal

pub returns : goal.returns
returns c = one_text
