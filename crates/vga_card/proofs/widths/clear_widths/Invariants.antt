use Rattle.std.proofs.Common.{◌≡◌, ◌<◌, ◌≤◌, ◌⊎◌, ℕ, slice_index}
use Rattle.vga_card.proofs.widths.clear_widths.Given as goal

-- the widths so far are 0, and those from the last on
abbrev pub invariant-loop-line : goal.invariant-loop-line
invariant-loop-line l = (j : ℕ) → (j < l.line) ⊎ (l.last ≤ j) → slice_index l.widths j ≡ 0
