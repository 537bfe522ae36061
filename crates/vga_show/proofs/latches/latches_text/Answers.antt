use Rattle.std.proofs.Common.{arith}
use Rattle.vga_show.proofs.TextLemmas.{joins}
use Rattle.vga_show.proofs.latches.latches_text.Goals as goal

pub returns : goal.returns
returns c = grind (arith, joins)
