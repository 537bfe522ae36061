use Rattle.std.proofs.Common.{rules}
use Rattle.vga_host.proofs.host.saved.latch_bytes.Goals as goal

pub returns : goal.returns
returns c = search rules
