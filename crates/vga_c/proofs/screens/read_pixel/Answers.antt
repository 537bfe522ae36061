use Rattle.std.proofs.Common.{rules}
use Rattle.vga_c.proofs.screens.read_pixel.Goals as goal

pub returns-in-Ok-Some : goal.returns-in-Ok-Some
returns-in-Ok-Some c = search rules

pub returns-in-Ok-None : goal.returns-in-Ok-None
returns-in-Ok-None c = search rules
