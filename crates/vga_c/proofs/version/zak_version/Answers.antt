use Rattle.std.proofs.Common.{rules}
use Rattle.vga_c.proofs.version.zak_version.Goals as goal

pub returns : goal.returns
returns c = search rules
