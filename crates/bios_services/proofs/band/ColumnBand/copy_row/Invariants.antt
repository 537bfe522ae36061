use Rattle.std.proofs.Common.{◌≡◌, ◌-◌}
use Rattle.bios_services.specs.Plan.{run, each}
use Rattle.bios_services.specs.Bands.{copy_line, copy_row}
use Rattle.bios_services.proofs.band.ColumnBand.copy_row.Given as goal

-- what the lines from here on leave is what the whole row leaves
abbrev pub invariant-loop-line : goal.invariant-loop-line
invariant-loop-line g l =
    run g.B.Bus.meaning (each (copy_line l.self l.from l.to) (l.line-end - l.line) l.line) l.bus
    ≡ run g.B.Bus.meaning (copy_row l.self l.from l.to) l.fn.bus
