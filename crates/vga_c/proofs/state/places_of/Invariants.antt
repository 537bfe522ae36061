use Rattle.std.proofs.Common.{◌≡◌, ℕ, ◌<◌, length}
use Rattle.std.specs.Prelude.{slice_index}
use Rattle.vga_c.proofs.state.places_of.Given as goal

-- the places of the pages so far
abbrev pub invariant-loop-page : goal.invariant-loop-page
invariant-loop-page l = (length l.places ≡ 8) × ((k : ℕ) → k < l.page → slice_index l.places k ≡ slice_index l.bda.cursor_places k)
