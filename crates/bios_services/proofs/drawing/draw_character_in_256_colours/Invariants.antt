use Rattle.std.proofs.Common.{◌≡◌, ◌-◌}
use Rattle.bios_services.specs.Plan.{run, each}
use Rattle.bios_services.specs.Glyphs.{glyph_line}
use Rattle.bios_services.specs.Drawing.{put_glyph_line_in_256_colours, draw_character_in_256_colours_plan}
use Rattle.bios_services.proofs.drawing.draw_character_in_256_colours.Given as goal

-- what the lines from here on leave is what the whole character leaves
abbrev pub invariant-loop-r : goal.invariant-loop-r
invariant-loop-r g l =
    run g.B.Bus.meaning (each (λ r. put_glyph_line_in_256_colours l.cell.band l.cell.row r (glyph_line l.fonts l.cell.band.lines l.character r) l.colour) (l.r-end - l.r) l.r) l.bus
    ≡ run g.B.Bus.meaning (draw_character_in_256_colours_plan l.cell.band l.cell.row l.fonts l.character l.colour) l.fn.bus
