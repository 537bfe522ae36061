use Rattle.vga_dots.proofs.FetchLemmas.{same_colour}
use Rattle.vga_dots.proofs.laws.dots_see_what_they_fetch.Goals as goal

pub returns : goal.returns
returns c = same_colour
