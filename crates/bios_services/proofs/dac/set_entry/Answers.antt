use Rattle.std.proofs.Common.{rules}
use Rattle.bios_services.specs.Dac.{set_entry_plan}
use Rattle.bios_services.proofs.dac.set_entry.Goals as goal

pub returns : goal.returns
unfolding set_entry_plan
returns c = search rules
