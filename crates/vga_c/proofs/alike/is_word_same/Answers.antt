-- Equal words have equal bytes.
use Rattle.std.proofs.Common.{◌∙◌, sym, ap}
use Rattle.std.proofs.lemmas.Bool.{eqb-true}
use Rattle.vga_bits.specs.Words.{plane_byte_in_word}
use Rattle.vga_c.proofs.alike.is_word_same.Goals as goal

pub returns : goal.returns
returns c same = λ i few. sym (c.word_at.ensures i few) ∙ ap (plane_byte_in_word i) (eqb-true c.word_at.result c.word_at-2.result same) ∙ c.word_at-2.ensures i few
