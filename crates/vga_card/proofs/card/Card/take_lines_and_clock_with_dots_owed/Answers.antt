-- The timing is that after the dots that were taken and those that are left.
use Rattle.std.proofs.Common.{subst, ◌∙◌}
use Rattle.vga_card.specs.Card.{CardState}
use Rattle.vga_card.specs.Clock.{IsRasterTiming}
use Rattle.vga_card.proofs.card.Card.take_lines_and_clock_with_dots_owed.Goals as goal

pub returns-then-are_next_dots_within_line-clause-clock : goal.returns-then-are_next_dots_within_line-clause-clock
returns-then-are_next_dots_within_line-clause-clock c =
    subst (λ (card : CardState). IsRasterTiming card c.clock_after_dots.result) c.take_to_last_line_start-left.ensures.dots c.clock_after_dots.ensures.clock

pub returns-clause-clock : goal.returns-clause-clock
returns-clause-clock c =
    subst (λ (card : CardState). IsRasterTiming card c.clock.result) (c.take_dots.ensures ∙ c.take_to_last_line_start-left.ensures.dots) c.clock.ensures.clock
