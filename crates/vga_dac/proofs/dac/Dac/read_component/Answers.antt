use Rattle.std.proofs.Common.{rules}
use Rattle.vga_dac.proofs.dac.Dac.read_component.Goals as goal

pub returns-clause-value : goal.returns-clause-value
returns-clause-value c = search rules

pub returns-clause-after : goal.returns-clause-after
returns-clause-after c = search rules
