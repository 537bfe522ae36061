use Rattle.std.proofs.Common.{◌∙◌, ap, ◌+◌, ◌*◌, arith}
use Rattle.bios_services.specs.Plan.{run, put}
use Rattle.bios_services.specs.GlyphLoads.{loaded_line}
use Rattle.bios_services.proofs.PlanRuns.{next_turn}
use Rattle.bios_services.proofs.glyph_load.GlyphLoad.write_glyph.Goals as goal

pub loop-r-preserved : goal.loop-r-preserved
loop-r-preserved g c =
    next_turn g.B.Bus.meaning (λ r. put (0xA0000 + 32 * c.args.c + r) (loaded_line c.args.fonts.now c.args.self c.args.block.now c.args.c r)) c.loop-r.r
    c.args.self.height c.loop-r.bus c.put.new.bus _ (omega arith) (c.put.ensures
    ∙ ap (λ v. (run g.B.Bus.meaning (put (0xA0000 + 32 * c.args.c + c.loop-r.r) v) c.loop-r.bus).0) c.line.ensures) c.loop-r.invariant
