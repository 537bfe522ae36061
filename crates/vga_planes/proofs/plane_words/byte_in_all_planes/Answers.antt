use Rattle.std.proofs.Common.{arith}
use Rattle.vga_bits.proofs.WordLemmas.{word_bit_spread}
use Rattle.vga_planes.proofs.plane_words.byte_in_all_planes.Goals as goal

pub returns : goal.returns
returns c = grind (arith, word_bit_spread)
