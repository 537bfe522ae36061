use Rattle.std.proofs.Common.{rules}
use Rattle.bios_services.proofs.drawing.put_over_latches.Goals as goal

pub returns : goal.returns
returns c = search rules
