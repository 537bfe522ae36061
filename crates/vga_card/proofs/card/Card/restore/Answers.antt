use Rattle.std.proofs.Common.{rules}
use Rattle.vga_card.specs.Saved.{card_from}
use Rattle.vga_card.proofs.card.Card.restore.Goals as goal

pub returns : goal.returns
unfolding card_from
returns c = search rules
