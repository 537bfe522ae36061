use Rattle.std.proofs.Common.{rules}
use Rattle.bios_services.specs.Dac.{set_entries_plan}
use Rattle.bios_services.proofs.dac.set_entries.Goals as goal

pub returns : goal.returns
unfolding set_entries_plan
returns c = search rules
