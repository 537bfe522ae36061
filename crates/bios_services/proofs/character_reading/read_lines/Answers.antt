use Rattle.std.proofs.Common.{arith}
use Rattle.bios_services.specs.Bands.{byte_address_in_band}
use Rattle.bios_services.specs.CharacterReading.{read_nonzero_pixels_plan}
use Rattle.bios_services.proofs.PlanRuns.{next_read, all_read}
use Rattle.bios_services.proofs.character_reading.read_lines.Goals as goal

pub loop-r-preserved : goal.loop-r-preserved
loop-r-preserved g c =
    next_read g.B.Bus.meaning (λ r. read_nonzero_pixels_plan c.args.cell.band.kind (byte_address_in_band c.args.cell.band c.args.cell.row r 0)) c.loop-r.r c.args.cell.band.lines c.loop-r.bus
    c.read_nonzero_pixels.new.bus c.read_nonzero_pixels.result c.loop-r.lines _ (omega arith) (omega arith) (cc) c.loop-r.invariant

pub returns-clause-lines : goal.returns-clause-lines
returns-clause-lines g c =
    all_read g.B.Bus.meaning (λ r. read_nonzero_pixels_plan c.args.cell.band.kind (byte_address_in_band c.args.cell.band c.args.cell.row r 0)) c.loop-r.r c.args.cell.band.lines c.loop-r.bus c.loop-r.lines
    _ (omega arith) (omega arith) c.loop-r.invariant
