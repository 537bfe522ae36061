-- The dots of the line do not see the write.
use Rattle.vga_card.proofs.LineAheadLemmas.{put_not_seen}
use Rattle.vga_card.proofs.card.Card.put_before_line.Goals as goal

pub returns-then-n-line-clause-done : goal.returns-then-n-line-clause-done
returns-then-n-line-clause-done c is =
    let put = c.put_if_unchanged_outside.ensures in
    put_not_seen c.dots_see_what_they_fetch.ensures c.args.line c.args.n c.args.self.now c.put_if_unchanged_outside.new.self c.args.address c.args.v c.requires c.if-n-line.true
    (put.apart is) (put.beside is) (put.done is)
