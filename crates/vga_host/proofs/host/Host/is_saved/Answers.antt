use Rattle.std.proofs.Common.{rules}
use Rattle.vga_host.proofs.host.Host.is_saved.Goals as goal

pub returns-then-bytes-ne-SAVED_LEN : goal.returns-then-bytes-ne-SAVED_LEN
returns-then-bytes-ne-SAVED_LEN c = search rules
