use Rattle.std.proofs.Common.{◌≡◌, ◌-◌}
use Rattle.bios_services.specs.Plan.{run, each}
use Rattle.bios_services.specs.Bands.{byte_address_in_band}
use Rattle.bios_services.specs.Glyphs.{glyph_line}
use Rattle.bios_services.specs.Drawing.{put_over_latches, put_glyph_over}
use Rattle.bios_services.proofs.drawing.put_glyph_over.Given as goal

-- what the lines from here on leave is what the whole glyph leaves
abbrev pub invariant-loop-r : goal.invariant-loop-r
invariant-loop-r g l =
    run g.B.Bus.meaning (each (λ r. put_over_latches (byte_address_in_band l.cell.band l.cell.row r 0) (glyph_line l.fonts l.cell.band.lines l.character r)) (l.r-end - l.r) l.r) l.bus
    ≡ run g.B.Bus.meaning (put_glyph_over l.cell.band l.cell.row l.fonts l.character) l.fn.bus
