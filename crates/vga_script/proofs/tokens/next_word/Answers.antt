use Rattle.std.proofs.Common.{rules}
use Rattle.vga_script.proofs.WordLemmas.{words_prefix_at}
use Rattle.vga_script.proofs.tokens.next_word.Goals as goal

pub returns-clause-found : goal.returns-clause-found
returns-clause-found c =
    rw (c.split_at.ensures.front, c.split_at.ensures.back, ← c.after_blanks-rest.ensures.words)
    (words_prefix_at c.after_blanks-rest.result.now c.position_in.result c.position_in.ensures.position (c.after_blanks-rest.ensures.prefix (search rules)))
