use Rattle.std.proofs.Common.{arith}
use Rattle.bios_services.proofs.PlanRuns.{run_bind}
use Rattle.bios_services.specs.Bands.{scroll_rows}
use Rattle.bios_services.proofs.band.ColumnBand.scroll_rows.Goals as goal

pub returns : goal.returns
unfolding scroll_rows
returns c = grind (arith, run_bind)
