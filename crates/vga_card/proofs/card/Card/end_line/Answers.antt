use Rattle.std.proofs.Common.{rules}
use Rattle.vga_card.proofs.card.Card.end_line.Goals as goal

pub returns-clause-after : goal.returns-clause-after
returns-clause-after c = search rules
