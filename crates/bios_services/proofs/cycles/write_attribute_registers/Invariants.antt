use Rattle.std.proofs.Common.{◌≡◌, ◌-◌, slice_index, length}
use Rattle.bios_services.specs.Plan.{run, each}
use Rattle.bios_services.specs.Cycles.{write_attribute_register}
use Rattle.bios_services.proofs.cycles.write_attribute_registers.Given as goal

-- what the turns from here on leave is what all turns leave
abbrev pub invariant-loop-i : goal.invariant-loop-i
invariant-loop-i g l =
    run g.B.Bus.meaning (each (λ i. write_attribute_register i (slice_index l.values i)) (l.i-end - l.i) l.i) l.bus
    ≡ run g.B.Bus.meaning (each (λ i. write_attribute_register i (slice_index l.values i)) (length l.values) 0) l.fn.bus
