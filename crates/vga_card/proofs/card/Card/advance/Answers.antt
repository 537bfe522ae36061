use Rattle.std.proofs.Common.{rules}
use Rattle.vga_card.proofs.card.Card.advance.Goals as goal

pub returns-then-n-gt-MOST_DOTS-clause-few : goal.returns-then-n-gt-MOST_DOTS-clause-few
returns-then-n-gt-MOST_DOTS-clause-few c = search rules

pub returns-then-n-gt-MOST_DOTS-clause-ok : goal.returns-then-n-gt-MOST_DOTS-clause-ok
returns-then-n-gt-MOST_DOTS-clause-ok c = search rules

pub returns-clause-few : goal.returns-clause-few
returns-clause-few c = search rules

pub returns-clause-ok : goal.returns-clause-ok
returns-clause-ok c = search rules
