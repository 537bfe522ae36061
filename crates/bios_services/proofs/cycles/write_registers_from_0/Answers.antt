use Rattle.std.proofs.Common.{slice_index, length, arith}
use Rattle.bios_services.specs.Cycles.{write_indexed}
use Rattle.bios_services.proofs.PlanRuns.{next_turn}
use Rattle.bios_services.proofs.cycles.write_registers_from_0.Goals as goal

pub loop-i-preserved : goal.loop-i-preserved
loop-i-preserved g c =
    next_turn g.B.Bus.meaning (λ i. write_indexed c.args.port i (slice_index c.args.values.now i)) c.loop-i.i (length c.args.values.now) c.loop-i.bus
    c.write_indexed.new.bus _ (omega arith) c.write_indexed.ensures c.loop-i.invariant
