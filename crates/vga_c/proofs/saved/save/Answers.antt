use Rattle.std.proofs.Common.{rules}
use Rattle.vga_c.proofs.saved.save.Goals as goal

pub returns-then-bytes-size : goal.returns-then-bytes-size
returns-then-bytes-size c = search rules

pub returns : goal.returns
returns c = search rules
