use Rattle.std.proofs.Common.{arith}
use Rattle.bios_services.proofs.PlanRuns.{run_bind}
use Rattle.bios_services.specs.ModeSet.{write_font_plan}
use Rattle.bios_services.proofs.glyph_load.GlyphLoad.write_font.Goals as goal

pub returns : goal.returns
unfolding write_font_plan
returns c = grind (arith, run_bind)
