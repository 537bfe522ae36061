use Rattle.std.proofs.Common.{rules}
use Rattle.bios_services.specs.Palette.{set_attribute_register_plan}
use Rattle.bios_services.proofs.palette.set_attribute_register.Goals as goal

pub returns : goal.returns
unfolding set_attribute_register_plan
returns c = search rules
