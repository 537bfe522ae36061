use Rattle.std.proofs.Common.{rules}
use Rattle.bios_services.specs.Palette.{read_attribute_register_in_index_state_plan}
use Rattle.bios_services.proofs.palette.read_attribute_register_in_index_state.Goals as goal

pub returns : goal.returns
unfolding read_attribute_register_in_index_state_plan
returns c = search rules
