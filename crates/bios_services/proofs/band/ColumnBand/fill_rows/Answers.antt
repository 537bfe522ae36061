use Rattle.std.proofs.Common.{◌+◌, arith}
use Rattle.bios_services.specs.Bands.{fill_row}
use Rattle.bios_services.proofs.PlanRuns.{next_turn}
use Rattle.bios_services.proofs.band.ColumnBand.fill_rows.Goals as goal

pub loop-row-preserved : goal.loop-row-preserved
loop-row-preserved g c =
    next_turn g.B.Bus.meaning (fill_row c.args.self c.args.filling) c.loop-row.row (c.args.top + c.args.count) c.loop-row.bus c.fill_row.new.bus _ (omega arith)
    c.fill_row.ensures c.loop-row.invariant
