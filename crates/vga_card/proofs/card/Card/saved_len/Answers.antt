use Rattle.std.proofs.Common.{rules}
use Rattle.vga_card.proofs.card.Card.saved_len.Goals as goal

pub returns-clause-value : goal.returns-clause-value
returns-clause-value c = search rules

pub returns-clause-dots : goal.returns-clause-dots
returns-clause-dots c = search rules

pub returns-clause-few : goal.returns-clause-few
returns-clause-few c = search rules
