use Rattle.std.proofs.Common.{◌≡◌, ◌-◌, slice_index, length}
use Rattle.bios_services.specs.Plan.{run, each, out}
use Rattle.bios_services.proofs.dac.write_components.Given as goal

-- what the turns from here on leave is what all turns leave
abbrev pub invariant-loop-i : goal.invariant-loop-i
invariant-loop-i g l =
    run g.B.Bus.meaning (each (λ i. out 0x3C9 (slice_index l.block i)) (l.i-end - l.i) l.i) l.bus
    ≡ run g.B.Bus.meaning (each (λ i. out 0x3C9 (slice_index l.block i)) (length l.block) 0) l.fn.bus
