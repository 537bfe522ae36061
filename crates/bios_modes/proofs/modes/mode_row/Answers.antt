use Rattle.std.proofs.Common.{rules}
use Rattle.bios_modes.proofs.modes.mode_row.Goals as goal

pub returns-in-18 : goal.returns-in-18
returns-in-18 c = search rules
