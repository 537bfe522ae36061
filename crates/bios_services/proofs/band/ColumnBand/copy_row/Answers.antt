use Rattle.std.proofs.Common.{arith}
use Rattle.bios_services.specs.Bands.{copy_line}
use Rattle.bios_services.proofs.PlanRuns.{next_turn}
use Rattle.bios_services.proofs.band.ColumnBand.copy_row.Goals as goal

pub loop-line-preserved : goal.loop-line-preserved
loop-line-preserved g c =
    next_turn g.B.Bus.meaning (copy_line c.args.self c.args.from c.args.to) c.loop-line.line c.args.self.lines c.loop-line.bus c.copy_line.new.bus _
    (omega arith) c.copy_line.ensures c.loop-line.invariant
