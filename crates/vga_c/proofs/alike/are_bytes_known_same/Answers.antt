use Rattle.std.proofs.Common.{◌-◌, arith, subst}
use Rattle.vga_c.proofs.AlikeLemmas.{AreSame, same_after_more}
use Rattle.vga_c.proofs.alike.are_bytes_known_same.Goals as goal
use Rattle.vga_c.proofs.alike.are_bytes_known_same.Goals.{then-loop-same-test+else-is_word_same, else-loop-same-test}

pub loop-same-preserved : goal.loop-same-preserved
loop-same-preserved c =
    let n = c.loop-same.same in
    same_after_more c.args.bytes.now c.args.at c.args.other n n 8 (omega arith) c.loop-same.invariant (c.is_word_same.ensures c.if-is_word_same.true)

pub returns-then-last-same : goal.returns-then-last-same
returns-then-last-same c is =
    let last = c.args.count - 8 in
    subst (AreSame c.args.bytes.now c.args.at c.args.other) (omega (arith, c.if-count-lt-WORD.false))
    (same_after_more c.args.bytes.now c.args.at c.args.other c.loop-same.same last 8 (omega (arith, c.if-last-same.true)) c.loop-same.invariant
    (c.is_word_same-then-last-same.ensures is))
