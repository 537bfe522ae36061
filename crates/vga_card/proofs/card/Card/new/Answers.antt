use Rattle.std.proofs.Common.{rules}
use Rattle.vga_card.proofs.card.Card.new.Goals as goal

pub returns-clause-ok : goal.returns-clause-ok
returns-clause-ok c = search rules
