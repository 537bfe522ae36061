use Rattle.std.proofs.Common.{◌≡◌, ◌-◌}
use Rattle.bios_services.specs.Plan.{run, each, put}
use Rattle.bios_services.specs.Bands.{byte_address_in_band}
use Rattle.bios_services.specs.Drawing.{glyph_dot_colour, put_glyph_line_in_256_colours}
use Rattle.bios_services.proofs.drawing.put_glyph_line_in_256_colours.Given as goal

-- what the dots from here on leave is what the whole line leaves
abbrev pub invariant-loop-i : goal.invariant-loop-i
invariant-loop-i g l =
    run g.B.Bus.meaning (each (λ i. put (byte_address_in_band l.cell.band l.cell.row l.line i) (glyph_dot_colour l.dots l.colour i)) (8 - l.i) l.i) l.bus
    ≡ run g.B.Bus.meaning (put_glyph_line_in_256_colours l.cell.band l.cell.row l.line l.dots l.colour) l.fn.bus
