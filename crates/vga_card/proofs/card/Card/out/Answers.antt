use Rattle.std.proofs.Common.{rules}
use Rattle.vga_card.proofs.card.Card.out.Goals as goal

pub returns-in-Some : goal.returns-in-Some
returns-in-Some c = search rules
