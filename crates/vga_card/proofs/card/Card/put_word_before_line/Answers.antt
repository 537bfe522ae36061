-- The dots of the line do not see the writes.
use Rattle.std.proofs.Common.{◌≡◌, ◌==◌, false, rules}
use Rattle.vga_card.proofs.LineAheadLemmas.{put_word_not_seen}
use Rattle.vga_card.proofs.card.Card.put_word_before_line.Goals as goal

pub returns : goal.returns
returns c =
    let put = c.put_word_if_unchanged_outside.ensures in
    let not-last : (c.args.address == 0xFFFFFFFF) ≡ false = search rules in
    record {
      done = λ is. put_word_not_seen c.dots_see_what_they_fetch.ensures c.args.line c.args.n c.args.self.now c.put_word_if_unchanged_outside.new.self c.args.address c.args.v not-last
          (put.decoded is).0 (put.decoded is).1 c.requires c.if-n-line.false (put.apart is) (put.beside is) (put.done is);
      line = put.line;
      left = put.left;
    }
