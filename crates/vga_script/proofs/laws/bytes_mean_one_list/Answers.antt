use Rattle.vga_script.proofs.StepsLemmas.{one_meaning}
use Rattle.vga_script.proofs.laws.bytes_mean_one_list.Goals as goal

pub returns : goal.returns
returns c = one_meaning
