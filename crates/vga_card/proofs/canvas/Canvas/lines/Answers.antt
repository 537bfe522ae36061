use Rattle.std.proofs.Common.{rules}
use Rattle.vga_card.proofs.canvas.Canvas.lines.Goals as goal

pub returns-clause-lines : goal.returns-clause-lines
returns-clause-lines c = search rules

pub returns-clause-count : goal.returns-clause-count
returns-clause-count c = search rules
