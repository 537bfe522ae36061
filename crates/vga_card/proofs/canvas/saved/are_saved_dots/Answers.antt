use Rattle.std.proofs.Common.{rules}
use Rattle.vga_card.proofs.canvas.saved.are_saved_dots.Goals as goal

pub returns-then-is_empty : goal.returns-then-is_empty
returns-then-is_empty c = search rules

pub returns-else-is_empty : goal.returns-else-is_empty
returns-else-is_empty c = search rules

pub returns-else-rest-count : goal.returns-else-rest-count
returns-else-rest-count c = search rules

pub returns-in-None : goal.returns-in-None
returns-in-None c = search rules
