use Rattle.vga_script.proofs.StepsLemmas.{meaning_fits}
use Rattle.vga_script.proofs.laws.steps_are_in_range.Goals as goal

pub returns : goal.returns
returns c = meaning_fits
