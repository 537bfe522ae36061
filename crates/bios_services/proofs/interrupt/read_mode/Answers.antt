use Rattle.std.proofs.Common.{rules}
use Rattle.bios_services.proofs.interrupt.read_mode.Goals as goal

pub returns : goal.returns
returns c = search rules
