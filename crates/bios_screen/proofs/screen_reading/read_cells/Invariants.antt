use Rattle.std.proofs.Common.{◌≡◌}
use Rattle.std.specs.Prelude.{vec_len}
use Rattle.bios_screen.specs.Shown.{cells_in}
use Rattle.bios_screen.proofs.screen_reading.read_cells.Given as goal

-- the cells so far
abbrev pub invariant-loop-q : goal.invariant-loop-q
invariant-loop-q l = (l.cells.items ≡ cells_in l.planes.plane0 l.planes.plane1 l.q) × (vec_len l.cells ≡ l.q)
