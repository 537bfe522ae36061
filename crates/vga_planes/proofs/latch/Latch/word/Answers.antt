use Rattle.std.proofs.Common.{arith, rules}
use Rattle.vga_bits.proofs.WordLemmas.{word_bit_plane}
use Rattle.vga_planes.proofs.latch.Latch.word.Goals as goal

pub returns-clause-bytes : goal.returns-clause-bytes
returns-clause-bytes c = search rules

pub returns-clause-bits : goal.returns-clause-bits
returns-clause-bits c = grind (arith, word_bit_plane)
