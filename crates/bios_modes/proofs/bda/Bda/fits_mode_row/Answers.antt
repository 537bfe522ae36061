use Rattle.std.proofs.Common.{rules}
use Rattle.bios_modes.proofs.bda.Bda.fits_mode_row.Goals as goal

pub returns-then-self-row-6 : goal.returns-then-self-row-6
returns-then-self-row-6 c = search rules
