use Rattle.std.proofs.Common.{◌<◌, ℕ, slice_index}
use Rattle.vga_dac.proofs.dac.saved.are_six_bit_values.Given as goal

abbrev pub invariant-loop-i : goal.invariant-loop-i
invariant-loop-i l = (k : ℕ) → k < l.i → slice_index l.values k < 64
