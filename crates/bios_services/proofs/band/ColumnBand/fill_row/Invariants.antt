use Rattle.std.proofs.Common.{◌≡◌, ◌-◌}
use Rattle.bios_services.specs.Plan.{run, each}
use Rattle.bios_services.specs.Bands.{fill_line, fill_row}
use Rattle.bios_services.proofs.band.ColumnBand.fill_row.Given as goal

-- what the lines from here on leave is what the whole row leaves
abbrev pub invariant-loop-line : goal.invariant-loop-line
invariant-loop-line g l =
    run g.B.Bus.meaning (each (fill_line l.self l.filling l.row) (l.line-end - l.line) l.line) l.bus
    ≡ run g.B.Bus.meaning (fill_row l.self l.filling l.row) l.fn.bus
