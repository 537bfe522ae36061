use Rattle.std.proofs.Common.{arith}
use Rattle.bios_services.specs.Bands.{fill_line}
use Rattle.bios_services.proofs.PlanRuns.{next_turn}
use Rattle.bios_services.proofs.band.ColumnBand.fill_row.Goals as goal

pub loop-line-preserved : goal.loop-line-preserved
loop-line-preserved g c =
    next_turn g.B.Bus.meaning (fill_line c.args.self c.args.filling c.args.row) c.loop-line.line c.args.self.lines c.loop-line.bus c.fill_line.new.bus _
    (omega arith) c.fill_line.ensures c.loop-line.invariant
