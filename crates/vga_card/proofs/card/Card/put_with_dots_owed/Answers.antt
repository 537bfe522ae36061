-- The write keeps what is known of the line, and the dots that are left do not see it.
use Rattle.std.proofs.Common.{◌∙◌, sym, ap}
use Rattle.vga_card.specs.Card.{CardState}
use Rattle.vga_card.specs.Cycles.{WriteResult, put_cycle}
use Rattle.vga_card.specs.Dots.{dots}
use Rattle.vga_card.proofs.card.Card.put_with_dots_owed.Goals as goal

pub returns-then-n-eq0-clause-line : goal.returns-then-n-eq0-clause-line
returns-then-n-eq0-clause-line c = c.put_at_line.ensures.line c.line_for-known.result c.line_for-known.ensures

pub returns-clause-line : goal.returns-clause-line
returns-clause-line c = c.put_at_line-2.ensures.line c.take_dots_that_may_see_write-left.result.1 c.take_dots_that_may_see_write-left.ensures.line

pub returns-clause-put : goal.returns-clause-put
returns-clause-put c =
    let taken = c.take_dots_that_may_see_write-left in
    let left = taken.result.0 in
    ap (λ (w : WriteResult). let later : WriteResult = (dots left w.0, w.1) in later) c.put_at_line-2.ensures.put
    ∙ sym (c.unseen_writes_commute_with_dots.ensures left taken.new.self c.args.address c.args.v (taken.ensures.unseen c.args.v))
    ∙ ap (λ (x : CardState). put_cycle x c.args.address c.args.v) taken.ensures.dots
