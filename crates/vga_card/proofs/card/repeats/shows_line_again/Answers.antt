use Rattle.std.proofs.Common.{rules}
use Rattle.vga_card.proofs.card.repeats.shows_line_again.Goals as goal

pub returns-then-before-beam-2 : goal.returns-then-before-beam-2
returns-then-before-beam-2 c = search rules

pub returns-else-before-beam-2 : goal.returns-else-before-beam-2
returns-else-before-beam-2 c = search rules
