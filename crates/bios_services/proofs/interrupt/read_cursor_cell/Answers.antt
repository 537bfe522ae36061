use Rattle.std.proofs.Common.{arith}
use Rattle.bios_services.proofs.PlanRuns.{run_bind}
use Rattle.bios_services.specs.Service.{read_cell_service}
use Rattle.bios_services.proofs.interrupt.read_cursor_cell.Goals as goal

pub returns-then-is_text : goal.returns-then-is_text
unfolding read_cell_service
returns-then-is_text c = grind (arith, run_bind)

pub returns : goal.returns
unfolding read_cell_service
returns c = grind (arith, run_bind)
