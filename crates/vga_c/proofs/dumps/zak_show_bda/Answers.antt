use Rattle.std.proofs.Common.{rules}
use Rattle.vga_c.proofs.dumps.zak_show_bda.Goals as goal

pub returns : goal.returns
returns c = search rules
