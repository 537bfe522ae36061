use Rattle.std.proofs.Common.{◌≡◌, ◌+◌, ◌-◌, ◌*◌}
use Rattle.bios_services.specs.Plan.{run, each, put}
use Rattle.bios_services.specs.GlyphLoads.{loaded_line}
use Rattle.bios_services.proofs.glyph_load.GlyphLoad.write_glyph.Given as goal

-- what the turns from here on leave is what all turns leave
abbrev pub invariant-loop-r : goal.invariant-loop-r
invariant-loop-r g l =
    run g.B.Bus.meaning (each (λ r. put (0xA0000 + 32 * l.c + r) (loaded_line l.fonts l.self l.block l.c r)) (l.self.height - l.r) l.r) l.bus
    ≡ run g.B.Bus.meaning (each (λ r. put (0xA0000 + 32 * l.c + r) (loaded_line l.fonts l.self l.block l.c r)) l.self.height 0) l.fn.bus
