use Rattle.std.proofs.Common.{◌+◌, arith}
use Rattle.bios_services.specs.Bands.{copy_row}
use Rattle.bios_services.proofs.PlanRuns.{next_turn, next_down}
use Rattle.bios_services.proofs.band.ColumnBand.move_rows.Goals as goal

pub loop-row-preserved : goal.loop-row-preserved
loop-row-preserved g c =
    next_turn g.B.Bus.meaning (λ row. copy_row c.args.self (row + c.args.shift.rows) row) c.loop-row.row (c.args.top + c.args.count) c.loop-row.bus c.copy_row.new.bus _
    (omega arith) c.copy_row.ensures c.loop-row.invariant

pub loop-row-2-preserved : goal.loop-row-2-preserved
loop-row-2-preserved g c = record {
  above = omega arith;
  left = next_down g.B.Bus.meaning (λ row. copy_row c.args.self row (row + c.args.shift.rows)) c.args.top c.loop-row-2.row c.loop-row-2.bus
      c.copy_row-in-loop-row-2.new.bus _ (omega arith) c.copy_row-in-loop-row-2.ensures c.loop-row-2.invariant.left;
}
