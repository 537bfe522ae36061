use Rattle.std.proofs.Common.{rules}
use Rattle.bios_services.proofs.interrupt.read_cursor.Goals as goal

pub returns : goal.returns
returns c = search rules
