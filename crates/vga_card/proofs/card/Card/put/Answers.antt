use Rattle.std.proofs.Common.{rules}
use Rattle.vga_card.proofs.card.Card.put.Goals as goal

pub returns : goal.returns
returns c = search rules
