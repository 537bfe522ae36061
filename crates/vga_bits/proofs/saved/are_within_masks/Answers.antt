use Rattle.std.proofs.Common.{arith, rules}
use Rattle.vga_bits.proofs.RegisterLemmas.{kept_within}
use Rattle.vga_bits.proofs.saved.are_within_masks.Goals as goal

pub returns-then-values-i : goal.returns-then-values-i
returns-then-values-i c = search rules

pub returns : goal.returns
returns c = grind (arith, kept_within)
