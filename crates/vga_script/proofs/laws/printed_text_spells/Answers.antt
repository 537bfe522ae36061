use Rattle.vga_script.proofs.PrintedLemmas.{printed_spells}
use Rattle.vga_script.proofs.laws.printed_text_spells.Goals as goal

pub returns : goal.returns
returns c = printed_spells
