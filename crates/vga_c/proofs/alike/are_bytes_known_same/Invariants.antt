use Rattle.std.proofs.Common.{◌≡◌, ◌+◌, ◌-◌, ◌<◌, ℕ}
use Rattle.std.specs.Prelude.{slice_index}
use Rattle.vga_c.proofs.alike.are_bytes_known_same.Given as goal

-- the bytes so far are the same
abbrev pub invariant-loop-same : goal.invariant-loop-same
invariant-loop-same l = (k : ℕ) → k < l.same → slice_index l.bytes (l.at + k) ≡ slice_index l.bytes (l.other + k)

abbrev pub decreases-loop-same : goal.decreases-loop-same
decreases-loop-same l = l.last - l.same
