use Rattle.std.proofs.Common.{rules}
use Rattle.vga_c.proofs.state.colour_of.Goals as goal

pub returns : goal.returns
returns c = search rules
