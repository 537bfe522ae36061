use Rattle.std.proofs.Common.{rules}
use Rattle.vga_dots.specs.Colour.{dot_colour}
use Rattle.vga_dots.proofs.colour.dot_colour.Goals as goal

pub returns-then-is_screen_off : goal.returns-then-is_screen_off
unfolding dot_colour
returns-then-is_screen_off c = search rules

pub returns : goal.returns
unfolding dot_colour
returns c = search rules
