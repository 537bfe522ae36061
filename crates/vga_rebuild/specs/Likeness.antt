-- When the bytes of two saved machines are as like as the machines are.
use Rattle.std.specs.Prelude.{ℕ, ◌≡◌, List, take, drop}
use Rattle.vga_rebuild.specs.declared.rebuilt.Likeness.{Likeness}
use Rattle.vga_rebuild.specs.declared.rebuilt.Likeness.TheVariants.{Same, SameButForDots}

-- the BIOS data, the registers and the memory among the bytes of a saved machine: what stands
-- between the header and the dots drawn
abbrev pub state_of_saved : List ℕ → List ℕ
state_of_saved bytes = take 263029 (drop 9 bytes)

-- the same bytes; or the same, except for the dots drawn
abbrev pub AreSavedAlike : Likeness → List ℕ → List ℕ → Type 0
AreSavedAlike Same one other = one ≡ other
AreSavedAlike SameButForDots one other = state_of_saved one ≡ state_of_saved other
