use Rattle.std.proofs.Common.{rules}
use Rattle.vga_dac.specs.Saved.{dac_from}
use Rattle.vga_dac.proofs.dac.Dac.restore.Goals as goal

pub returns : goal.returns
unfolding dac_from
returns c = search rules
