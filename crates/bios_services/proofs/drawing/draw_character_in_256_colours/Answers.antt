use Rattle.std.proofs.Common.{arith}
use Rattle.bios_services.specs.Glyphs.{glyph_line}
use Rattle.bios_services.specs.Drawing.{put_glyph_line_in_256_colours}
use Rattle.bios_services.proofs.PlanRuns.{next_turn}
use Rattle.bios_services.proofs.drawing.draw_character_in_256_colours.Goals as goal

pub loop-r-preserved : goal.loop-r-preserved
loop-r-preserved g c =
    next_turn g.B.Bus.meaning (λ r. put_glyph_line_in_256_colours c.args.cell.band c.args.cell.row r (glyph_line c.args.fonts.now c.args.cell.band.lines c.args.character r) c.args.colour)
    c.loop-r.r c.args.cell.band.lines c.loop-r.bus c.put_glyph_line_in_256_colours.new.bus _ (omega arith) (cc) c.loop-r.invariant
