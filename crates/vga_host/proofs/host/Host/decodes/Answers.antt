use Rattle.std.proofs.Common.{rules}
use Rattle.vga_host.proofs.host.Host.decodes.Goals as goal

pub returns-then-access-address : goal.returns-then-access-address
returns-then-access-address c = search rules

pub returns-else-access-address : goal.returns-else-access-address
returns-else-access-address c = search rules
