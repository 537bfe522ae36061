use Rattle.std.proofs.Common.{◌≡◌, ◌+◌, ◌-◌, ◌≤◌}
use Rattle.bios_services.specs.declared.direction.Direction.TheVariants.{Up, Down}
use Rattle.bios_services.specs.Plan.{run, each, each_down}
use Rattle.bios_services.specs.Bands.{copy_row, move_rows}
use Rattle.bios_services.proofs.band.ColumnBand.move_rows.Given as goal

-- what the rows from here on leave is what all the rows leave that go up
abbrev pub invariant-loop-row : goal.invariant-loop-row
invariant-loop-row g l =
    run g.B.Bus.meaning (each (λ row. copy_row l.self (row + l.shift.rows) row) (l.top + l.count - l.row) l.row) l.bus
    ≡ run g.B.Bus.meaning (move_rows l.self Up l.shift.rows l.top l.count) l.fn.bus

-- what the rows below here leave is what all the rows leave that go down
abbrev pub invariant-loop-row-2 : goal.invariant-loop-row-2
invariant-loop-row-2 g l = record {
  above : l.top ≤ l.row;
  left : run g.B.Bus.meaning (each_down (λ row. copy_row l.self row (row + l.shift.rows)) (l.row - l.top) l.top) l.bus
      ≡ run g.B.Bus.meaning (move_rows l.self Down l.shift.rows l.top l.count) l.fn.bus;
}
