use Rattle.std.proofs.Common.{◌≡◌, ◌-◌}
use Rattle.bios_services.specs.Plan.{run, each}
use Rattle.bios_modes.specs.Palette.{palette_entry}
use Rattle.bios_services.specs.ModeSet.{write_dac_entry_plan}
use Rattle.bios_services.proofs.mode_set.write_mask_and_palette.Given as goal

-- what the turns from here on leave is what all turns leave
abbrev pub invariant-loop-i : goal.invariant-loop-i
invariant-loop-i g l =
    run g.B.Bus.meaning (each (λ i. write_dac_entry_plan (palette_entry l.palette i)) (l.n - l.i) l.i) l.bus
    ≡ run g.B.Bus.meaning (each (λ i. write_dac_entry_plan (palette_entry l.palette i)) l.n 0) l.initial.bus
