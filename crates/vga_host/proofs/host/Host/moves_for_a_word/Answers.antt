use Rattle.vga_host.proofs.WordLemmas.{latch_words, four_words, pair_words}
use Rattle.vga_host.proofs.host.Host.moves_for_a_word.Goals as goal

pub returns-then-moves_copy_latches : goal.returns-then-moves_copy_latches
returns-then-moves_copy_latches c = λ some.
    latch_words c.args.self.now c.args.misc c.args.from c.args.to c.args.n _ _ c.requires.within (c.moves_copy_latches.ensures c.if-moves_copy_latches.true)

pub returns-then-moves_copy_by_fours : goal.returns-then-moves_copy_by_fours
returns-then-moves_copy_by_fours c = λ some.
    four_words c.args.self.now c.args.misc c.args.from c.args.to c.args.n _ _ c.requires.within (c.moves_copy_by_fours.ensures c.if-moves_copy_by_fours.true)

pub returns-then-moves_copy_by_pairs : goal.returns-then-moves_copy_by_pairs
returns-then-moves_copy_by_pairs c = λ some.
    pair_words c.args.self.now c.args.misc c.args.from c.args.to c.args.n _ _ c.requires.within (c.moves_copy_by_pairs.ensures c.if-moves_copy_by_pairs.true)
