use Rattle.std.proofs.Common.{◌≡◌, ◌<◌, ℕ, slice_index}
use Rattle.std.specs.Prelude.{bit_and}
use Rattle.vga_bits.proofs.saved.are_within_masks.Given as goal

abbrev pub invariant-loop-i : goal.invariant-loop-i
invariant-loop-i l = (k : ℕ) → k < l.i → bit_and (slice_index l.values k) (slice_index l.masks k) ≡ slice_index l.values k
