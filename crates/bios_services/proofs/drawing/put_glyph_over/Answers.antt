use Rattle.std.proofs.Common.{arith}
use Rattle.bios_services.specs.Bands.{byte_address_in_band}
use Rattle.bios_services.specs.Glyphs.{glyph_line}
use Rattle.bios_services.specs.Drawing.{put_over_latches}
use Rattle.bios_services.proofs.PlanRuns.{next_turn}
use Rattle.bios_services.proofs.drawing.put_glyph_over.Goals as goal

pub loop-r-preserved : goal.loop-r-preserved
loop-r-preserved g c =
    next_turn g.B.Bus.meaning (λ r. put_over_latches (byte_address_in_band c.args.cell.band c.args.cell.row r 0) (glyph_line c.args.fonts.now c.args.cell.band.lines c.args.character r))
    c.loop-r.r c.args.cell.band.lines c.loop-r.bus c.put_over_latches.new.bus _ (omega arith) (cc) c.loop-r.invariant
