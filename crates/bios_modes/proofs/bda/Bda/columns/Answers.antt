use Rattle.std.proofs.Common.{rules}
use Rattle.bios_modes.proofs.bda.Bda.columns.Goals as goal

pub returns : goal.returns
returns c = search rules
