use Rattle.std.proofs.Common.{arith, subst, sym, ◌<◌}
use Rattle.vga_bits.proofs.WordLemmas.{word_bit_lt}
use Rattle.vga_dots.proofs.WordLemmas.{gathered}
use Rattle.vga_dots.proofs.row.nibble.Goals as goal

pub returns-clause-value : goal.returns-clause-value
returns-clause-value c = gathered c.args.word c.args.place c.requires

pub returns-clause-small : goal.returns-clause-small
returns-clause-small c =
    let b0 = word_bit_lt c.args.word 0 c.args.place in
    let b1 = word_bit_lt c.args.word 1 c.args.place in
    let b2 = word_bit_lt c.args.word 2 c.args.place in
    let b3 = word_bit_lt c.args.word 3 c.args.place in
    subst (λ n. n < 16) (sym (gathered c.args.word c.args.place c.requires)) (omega arith)
