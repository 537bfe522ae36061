use Rattle.std.proofs.Common.{◌≡◌, ◌++◌}
use Rattle.bios_screen.specs.Shown.{pixels_in}
use Rattle.bios_screen.proofs.screen_reading.append_pixels_of_page.Given as goal

-- the pixels so far
abbrev pub invariant-loop-k : goal.invariant-loop-k
invariant-loop-k l = l.pixels.items ≡ l.fn.pixels.items ++ pixels_in l.mode l.planes l.z l.k
