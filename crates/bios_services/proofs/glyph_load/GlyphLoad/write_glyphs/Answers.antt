use Rattle.std.proofs.Common.{arith, ◌+◌}
use Rattle.bios_services.specs.ModeSet.{write_glyph_plan}
use Rattle.bios_services.specs.GlyphLoads.{loaded_line}
use Rattle.bios_services.proofs.PlanRuns.{next_turn}
use Rattle.bios_services.proofs.glyph_load.GlyphLoad.write_glyphs.Goals as goal

pub loop-c-preserved : goal.loop-c-preserved
loop-c-preserved g c =
    next_turn g.B.Bus.meaning (write_glyph_plan (loaded_line c.args.fonts.now c.args.self c.args.block.now) c.args.self.height) c.loop-c.c
    (c.args.self.first + c.args.self.count) c.loop-c.bus c.write_glyph.new.bus _ (omega arith) c.write_glyph.ensures c.loop-c.invariant
