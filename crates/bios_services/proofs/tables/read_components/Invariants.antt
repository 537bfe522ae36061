use Rattle.std.proofs.Common.{◌≡◌, ◌-◌, take, length}
use Rattle.bios_services.specs.Plan.{run, gather, inp}
use Rattle.bios_services.specs.Tables.{read_components_plan}
use Rattle.bios_services.proofs.PlanRuns.{with_prefix}
use Rattle.bios_services.proofs.tables.read_components.Given as goal

-- the bytes so far and those that are still to be read are all of them
abbrev pub invariant-loop-i : goal.invariant-loop-i
invariant-loop-i g l = record {
  read : with_prefix (take l.i l.values) (run g.B.Bus.meaning (gather (λ i. inp 0x3C9) (length l.fn.values - l.i) l.i) l.bus)
      ≡ run g.B.Bus.meaning (read_components_plan (length l.fn.values)) l.fn.bus;
  whole : length l.values ≡ length l.fn.values;
}
