use Rattle.std.proofs.Common.{◌≡◌, ℕ, ◌<◌, length}
use Rattle.std.specs.Prelude.{slice_index}
use Rattle.bios_screen.proofs.screen_reading.read_cursor_positions.Given as goal

-- the cursor positions of the pages so far
abbrev pub invariant-loop-page : goal.invariant-loop-page
invariant-loop-page l = (length l.places ≡ 8) × ((k : ℕ) → k < l.page → slice_index l.places k ≡ slice_index l.bda.cursor_places k)
