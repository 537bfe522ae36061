use Rattle.std.proofs.Common.{◌≡◌, ◌+◌, ◌-◌}
use Rattle.bios_services.specs.Plan.{run, each}
use Rattle.bios_services.specs.ModeSet.{write_glyph_plan}
use Rattle.bios_services.specs.GlyphLoads.{loaded_line}
use Rattle.bios_services.proofs.glyph_load.GlyphLoad.write_glyphs.Given as goal

-- what the turns from here on leave is what all turns leave
abbrev pub invariant-loop-c : goal.invariant-loop-c
invariant-loop-c g l =
    run g.B.Bus.meaning (each (write_glyph_plan (loaded_line l.fonts l.self l.block) l.self.height) (l.self.first + l.self.count - l.c) l.c) l.bus
    ≡ run g.B.Bus.meaning (each (write_glyph_plan (loaded_line l.fonts l.self l.block) l.self.height) l.self.count l.self.first) l.fn.bus
