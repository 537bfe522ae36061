use Rattle.std.proofs.Common.{rules}
use Rattle.vga_show.proofs.cells.cell.Goals as goal

pub returns : goal.returns
returns c = search rules
