use Rattle.std.proofs.Common.{length, ap, ◌∙◌, arith}
use Rattle.std.proofs.lemmas.List.{length-set}
use Rattle.bios_services.specs.Plan.{inp}
use Rattle.bios_services.proofs.PlanRuns.{next_read, all_read}
use Rattle.bios_services.proofs.tables.read_components.Goals as goal

pub loop-i-preserved : goal.loop-i-preserved
loop-i-preserved g c =
    let count = ap length c.as_slice-i-end.ensures in
    record {
      read = rw c.set.ensures (next_read g.B.Bus.meaning (λ i. inp 0x3C9) c.loop-i.i (length c.args.values.now) c.loop-i.bus c.inp-value.new.bus
          c.inp-value.result c.loop-i.values _ (omega (arith, count)) (omega (arith, count, c.loop-i.invariant.whole)) c.inp-value.ensures
          c.loop-i.invariant.read);
      whole = ap length c.set.ensures ∙ length-set c.loop-i.values c.loop-i.i c.inp-value.result ∙ c.loop-i.invariant.whole;
    }

pub returns : goal.returns
returns g c =
    let count = ap length c.as_slice-i-end.ensures in
    all_read g.B.Bus.meaning (λ i. inp 0x3C9) c.loop-i.i (length c.args.values.now) c.loop-i.bus c.loop-i.values _ (omega (arith, count))
    (omega (arith, count, c.loop-i.invariant.whole)) c.loop-i.invariant.read
