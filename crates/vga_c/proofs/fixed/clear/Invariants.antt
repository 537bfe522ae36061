use Rattle.std.proofs.Common.{◌≡◌, ◌<◌, ℕ, length}
use Rattle.std.specs.Prelude.{slice_index}
use Rattle.vga_c.proofs.fixed.clear.Given as goal

-- the bytes so far are 0
abbrev pub invariant-loop-i : goal.invariant-loop-i
invariant-loop-i l = (length l.bytes ≡ length l.initial.bytes) × ((k : ℕ) → k < l.i → slice_index l.bytes k ≡ 0)
