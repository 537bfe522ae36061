use Rattle.std.proofs.Common.{rules}
use Rattle.vga_dots.proofs.character.masked_colour.Goals as goal

pub returns : goal.returns
returns c = search rules
