use Rattle.vga_script.proofs.FaultLemmas.{one_fault_lem, no_other_fault}
use Rattle.vga_script.proofs.laws.bytes_have_one_fault.Goals as goal

pub returns : goal.returns
returns c = record { single = one_fault_lem; none = no_other_fault }
