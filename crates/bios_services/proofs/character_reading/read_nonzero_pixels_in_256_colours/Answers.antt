use Rattle.std.proofs.Common.{◌+◌, arith}
use Rattle.bios_services.specs.CharacterReading.{shift_pixel_into_line}
use Rattle.bios_services.proofs.PlanRuns.{next_answer}
use Rattle.bios_services.proofs.character_reading.read_nonzero_pixels_in_256_colours.Goals as goal

pub loop-i-preserved : goal.loop-i-preserved
loop-i-preserved g c =
    next_answer g.B.Bus.meaning (λ i line. shift_pixel_into_line (c.args.address + i) line) c.loop-i.i 8 c.loop-i.bus c.shift_pixel_into_line-line.new.bus c.loop-i.line
    c.shift_pixel_into_line-line.result _ (omega arith) c.shift_pixel_into_line-line.ensures c.loop-i.invariant
