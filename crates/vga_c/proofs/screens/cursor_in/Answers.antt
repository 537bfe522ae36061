use Rattle.std.proofs.Common.{rules}
use Rattle.vga_c.proofs.screens.cursor_in.Goals as goal

pub returns : goal.returns
returns c = search rules
