use Rattle.std.proofs.Common.{rules}
use Rattle.bios_modes.proofs.palette.colour_with_bright_bit.Goals as goal

pub returns : goal.returns
returns c = search rules
