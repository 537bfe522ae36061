use Rattle.std.proofs.Common.{◌≡◌, ◌-◌, take}
use Rattle.bios_services.specs.Plan.{run, gather}
use Rattle.bios_services.specs.Palette.{read_attribute_register_in_index_state_plan}
use Rattle.bios_services.specs.Tables.{attribute_register_of_palette_byte, read_palette_registers_in_index_state_plan}
use Rattle.bios_services.proofs.PlanRuns.{with_prefix}
use Rattle.bios_services.proofs.tables.read_palette_registers_in_index_state.Given as goal

-- the registers so far and those that are still to be read are all of them
abbrev pub invariant-loop-i : goal.invariant-loop-i
invariant-loop-i g l =
    with_prefix (take l.i l.values) (run g.B.Bus.meaning (gather (λ i. read_attribute_register_in_index_state_plan l.port (attribute_register_of_palette_byte i)) (17 - l.i) l.i) l.bus)
    ≡ run g.B.Bus.meaning (read_palette_registers_in_index_state_plan l.port) l.fn.bus
