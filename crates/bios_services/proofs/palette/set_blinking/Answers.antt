use Rattle.std.proofs.Common.{rules}
use Rattle.bios_services.specs.Palette.{set_blinking_plan}
use Rattle.bios_services.proofs.palette.set_blinking.Goals as goal

pub returns : goal.returns
unfolding set_blinking_plan
returns c = search rules
