use Rattle.std.proofs.Common.{rules}
use Rattle.vga_dac.proofs.dac.Dac.advance_component.Goals as goal

pub returns : goal.returns
returns c = search rules
