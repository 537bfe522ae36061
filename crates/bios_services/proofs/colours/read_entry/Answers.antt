use Rattle.std.proofs.Common.{rules}
use Rattle.bios_services.specs.Colours.{read_entry_plan}
use Rattle.bios_services.proofs.colours.read_entry.Goals as goal

pub returns : goal.returns
unfolding read_entry_plan
returns c = search rules
