use Rattle.std.proofs.Common.{rules}
use Rattle.bios_services.proofs.cell_run.CellRun.write.Goals as goal

pub returns : goal.returns
returns c = search rules
