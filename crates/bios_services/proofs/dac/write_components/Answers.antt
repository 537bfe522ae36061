use Rattle.std.proofs.Common.{slice_index, length, arith}
use Rattle.bios_services.specs.Plan.{out}
use Rattle.bios_services.proofs.PlanRuns.{next_turn}
use Rattle.bios_services.proofs.dac.write_components.Goals as goal

pub loop-i-preserved : goal.loop-i-preserved
loop-i-preserved g c =
    next_turn g.B.Bus.meaning (λ i. out 0x3C9 (slice_index c.args.block.now i)) c.loop-i.i (length c.args.block.now) c.loop-i.bus c.out.new.bus _ (omega arith)
    c.out.ensures c.loop-i.invariant
