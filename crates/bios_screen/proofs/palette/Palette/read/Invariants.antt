use Rattle.std.proofs.Common.{◌≡◌, ℕ, ◌<◌, length}
use Rattle.std.specs.Prelude.{slice_index, take}
use Rattle.bios_screen.proofs.palette.Palette.read.Given as goal

-- the entries so far
abbrev pub invariant-loop-i : goal.invariant-loop-i
invariant-loop-i l =
    (l.palette.values ≡ take 16 l.attr.registers) × (l.palette.mask ≡ l.dac.mask)
    × ((length l.palette.reds ≡ 256) × ((k : ℕ) → k < l.i → slice_index l.palette.reds k ≡ slice_index l.dac.reds k))
    × ((length l.palette.greens ≡ 256) × ((k : ℕ) → k < l.i → slice_index l.palette.greens k ≡ slice_index l.dac.greens k))
    × ((length l.palette.blues ≡ 256) × ((k : ℕ) → k < l.i → slice_index l.palette.blues k ≡ slice_index l.dac.blues k))
