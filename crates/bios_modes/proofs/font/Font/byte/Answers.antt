use Rattle.std.proofs.Common.{rules}
use Rattle.bios_modes.proofs.font.Font.byte.Goals as goal

pub returns : goal.returns
returns c = search rules
