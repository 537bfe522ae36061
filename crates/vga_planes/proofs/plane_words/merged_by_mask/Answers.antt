use Rattle.std.proofs.Common.{arith}
use Rattle.vga_bits.proofs.WordLemmas.{word_bit_select}
use Rattle.vga_planes.proofs.plane_words.merged_by_mask.Goals as goal

pub returns : goal.returns
returns c = grind (arith, word_bit_select)
