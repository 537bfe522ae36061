use Rattle.std.proofs.Common.{arith}
use Rattle.vga_card.proofs.SavedLemmas.{none_counted, one_counted, too_many, all_counted}
use Rattle.vga_card.proofs.canvas.saved.count_saved_dots.Goals as goal

pub loop-line-init : goal.loop-line-init
loop-line-init c = none_counted c.args.beam c.args.bytes.now

pub returns-then-width-most_dots_on_line-clause-none : goal.returns-then-width-most_dots_on_line-clause-none
returns-then-width-most_dots_on_line-clause-none c =
    too_many c.args.beam c.args.bytes.now c.loop-line.line c.word_at-width.result (omega arith) c.word_at-width.ensures (omega (arith, c.most_dots_on_line.ensures))

pub loop-line-preserved : goal.loop-line-preserved
loop-line-preserved c =
    one_counted c.args.beam c.args.bytes.now c.loop-line.line c.loop-line.count c.word_at-width.result c.loop-line.invariant c.word_at-width.ensures
    (omega (arith, c.most_dots_on_line.ensures))

pub returns-clause-some : goal.returns-clause-some
returns-clause-some c = all_counted c.args.beam c.args.bytes.now c.loop-line.line c.loop-line.count (omega arith) c.loop-line.invariant
