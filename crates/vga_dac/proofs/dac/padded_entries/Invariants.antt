use Rattle.std.proofs.Common.{◌≡◌, length}
use Rattle.vga_dac.specs.Dac.{ArePaddedEntries}
use Rattle.vga_dac.proofs.dac.padded_entries.Given as goal

-- the entries so far are those of the components, and there is room for the others
abbrev pub invariant-loop-i : goal.invariant-loop-i
invariant-loop-i l = (length l.entries ≡ 256) × ArePaddedEntries l.i l.entries l.reds l.greens l.blues
