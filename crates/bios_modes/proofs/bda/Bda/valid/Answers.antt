use Rattle.std.proofs.Common.{rules}
use Rattle.bios_modes.proofs.bda.Bda.valid.Goals as goal

pub returns-in-Some : goal.returns-in-Some
returns-in-Some c = search rules
