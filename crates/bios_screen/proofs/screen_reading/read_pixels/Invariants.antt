use Rattle.std.proofs.Common.{◌≡◌, ◌*◌}
use Rattle.bios_screen.specs.Raster.{concatenated_lists}
use Rattle.bios_screen.specs.Shown.{pixels_in}
use Rattle.bios_screen.proofs.screen_reading.read_pixels.Given as goal

-- the pages so far
abbrev pub invariant-loop-page : goal.invariant-loop-page
invariant-loop-page l = l.pixels.items ≡ concatenated_lists (λ p. pixels_in l.mode l.planes (l.size * p) l.n) l.page
