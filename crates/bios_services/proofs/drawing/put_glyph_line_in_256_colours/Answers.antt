use Rattle.std.proofs.Common.{arith}
use Rattle.bios_services.specs.Plan.{put}
use Rattle.bios_services.specs.Bands.{byte_address_in_band}
use Rattle.bios_services.specs.Drawing.{glyph_dot_colour}
use Rattle.bios_services.proofs.PlanRuns.{next_turn}
use Rattle.bios_services.proofs.drawing.put_glyph_line_in_256_colours.Goals as goal

pub loop-i-preserved : goal.loop-i-preserved
loop-i-preserved g c =
    next_turn g.B.Bus.meaning (λ i. put (byte_address_in_band c.args.cell.band c.args.cell.row c.args.line i) (glyph_dot_colour c.args.dots c.args.colour i)) c.loop-i.i 8 c.loop-i.bus
    c.put.new.bus _ (omega arith) (cc) c.loop-i.invariant
