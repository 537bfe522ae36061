use Rattle.vga_script.proofs.TextLemmas.{one_text_fault_lem, no_other_fault}
use Rattle.vga_script.proofs.laws.text_has_one_fault.Goals as goal

pub returns : goal.returns
returns c = record { single = one_text_fault_lem; none = no_other_fault }
