use Rattle.std.proofs.Common.{rules}
use Rattle.bios_services.specs.Colours.{read_dac_mask_into_bl}
use Rattle.bios_services.proofs.colours.answer_mask.Goals as goal

pub returns : goal.returns
unfolding read_dac_mask_into_bl
returns c = search rules
