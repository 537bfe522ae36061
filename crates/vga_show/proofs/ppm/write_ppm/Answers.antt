use Rattle.std.proofs.Common.{arith}
use Rattle.vga_bits.proofs.WritingLemmas.{prefix_of_more, writes_after}
use Rattle.vga_show.proofs.ppm.write_ppm.Goals as goal

pub returns : goal.returns
returns c = grind (arith, writes_after, prefix_of_more)
