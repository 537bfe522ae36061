use Rattle.std.proofs.Common.{◌∙◌, ap, arith}
use Rattle.bios_services.specs.Plan.{run}
use Rattle.bios_services.specs.Palette.{read_attribute_register_in_index_state_plan}
use Rattle.bios_services.specs.Tables.{attribute_register_of_palette_byte}
use Rattle.bios_services.proofs.PlanRuns.{next_read, all_read}
use Rattle.bios_services.proofs.tables.read_palette_registers_in_index_state.Goals as goal

pub loop-i-preserved : goal.loop-i-preserved
loop-i-preserved g c =
    let m = g.B.Bus.meaning in
    let now = c.read_attribute_register_in_index_state.ensures ∙ ap (λ i. run m (read_attribute_register_in_index_state_plan c.args.port i) c.loop-i.bus) c.attribute_register_of_palette_byte.ensures.value in
    next_read m (λ i. read_attribute_register_in_index_state_plan c.args.port (attribute_register_of_palette_byte i)) c.loop-i.i 17 c.loop-i.bus c.read_attribute_register_in_index_state.new.bus c.read_attribute_register_in_index_state.result c.loop-i.values _
    (omega arith) (omega arith) now c.loop-i.invariant

pub returns : goal.returns
returns g c =
    all_read g.B.Bus.meaning (λ i. read_attribute_register_in_index_state_plan c.args.port (attribute_register_of_palette_byte i)) c.loop-i.i 17 c.loop-i.bus c.loop-i.values _ (omega arith) (omega arith)
    c.loop-i.invariant
