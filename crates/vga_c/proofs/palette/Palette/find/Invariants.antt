use Rattle.std.proofs.Common.{◌≡◌, ◌<◌, ℕ, slice_index}
use Rattle.vga_c.proofs.palette.Palette.find.Given as goal

-- none of the numbers so far is that of the colour
abbrev pub invariant-loop-k : goal.invariant-loop-k
invariant-loop-k l = (j : ℕ) → j < l.k → ¬ (slice_index l.self.colours j ≡ l.colour)
