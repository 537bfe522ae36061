use Rattle.std.proofs.Common.{rules}
use Rattle.vga_dac.proofs.dac.Dac.waiting.Goals as goal

pub returns-clause-red : goal.returns-clause-red
returns-clause-red c = search rules

pub returns-clause-green : goal.returns-clause-green
returns-clause-green c = search rules
