use Rattle.std.proofs.Common.{sym, subst}
use Rattle.vga_card.specs.Card.{CardState}
use Rattle.vga_card.specs.Clock.{IsRasterTiming}
use Rattle.vga_card.specs.Dots.{dots}
use Rattle.vga_card.proofs.card.Card.clock_with_dots_owed.Goals as goal

-- no dots are owed
pub returns-then-n-eq0-clause-clock : goal.returns-then-n-eq0-clause-clock
returns-then-n-eq0-clause-clock c =
    let card = c.args.self.now in
    subst (λ n. IsRasterTiming (dots n card) c.clock.result) (sym c.if-n-eq0.true)
    (subst (λ (now : CardState). IsRasterTiming now c.clock.result) (sym (c.dots_split.ensures.none card)) c.clock.ensures.clock)
