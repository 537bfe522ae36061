use Rattle.std.proofs.Common.{◌≡◌, ◌-◌, take}
use Rattle.bios_services.specs.Plan.{run, gather}
use Rattle.bios_services.specs.Bands.{byte_address_in_band}
use Rattle.bios_services.specs.CharacterReading.{read_nonzero_pixels_plan, read_lines_plan}
use Rattle.bios_services.proofs.PlanRuns.{with_prefix}
use Rattle.bios_services.proofs.character_reading.read_lines.Given as goal

-- the lines so far and those that are still to be read are all of them
abbrev pub invariant-loop-r : goal.invariant-loop-r
invariant-loop-r g l =
    with_prefix (take l.r l.lines) (run g.B.Bus.meaning (gather (λ r. read_nonzero_pixels_plan l.cell.band.kind (byte_address_in_band l.cell.band l.cell.row r 0)) (l.cell.band.lines - l.r) l.r) l.bus)
    ≡ run g.B.Bus.meaning (read_lines_plan l.cell.band l.cell.row) l.fn.bus
