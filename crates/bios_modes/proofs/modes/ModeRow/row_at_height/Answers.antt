use Rattle.std.proofs.Common.{rules}
use Rattle.bios_modes.proofs.modes.ModeRow.row_at_height.Goals as goal

pub returns : goal.returns
returns c = search rules
