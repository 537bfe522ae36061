use Rattle.std.proofs.Common.{◌≡◌, ◌+◌, ◌-◌}
use Rattle.bios_services.specs.Plan.{run, each}
use Rattle.bios_services.specs.Bands.{fill_row, fill_rows}
use Rattle.bios_services.proofs.band.ColumnBand.fill_rows.Given as goal

-- what the rows from here on leave is what all the rows leave
abbrev pub invariant-loop-row : goal.invariant-loop-row
invariant-loop-row g l =
    run g.B.Bus.meaning (each (fill_row l.self l.filling) (l.top + l.count - l.row) l.row) l.bus
    ≡ run g.B.Bus.meaning (fill_rows l.self l.filling l.top l.count) l.fn.bus
