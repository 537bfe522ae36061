use Rattle.std.proofs.Common.{rules}
use Rattle.vga_card.proofs.card.Card.decodes_word.Goals as goal

pub returns-then-decodes : goal.returns-then-decodes
returns-then-decodes c = search rules

pub returns-else-decodes : goal.returns-else-decodes
returns-else-decodes c = search rules
