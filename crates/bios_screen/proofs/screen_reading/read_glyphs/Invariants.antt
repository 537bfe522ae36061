use Rattle.std.proofs.Common.{◌≡◌}
use Rattle.bios_screen.specs.Shown.{glyph_bytes_in_plane_2}
use Rattle.bios_screen.proofs.screen_reading.read_glyphs.Given as goal

-- the glyphs so far
abbrev pub invariant-loop-i : goal.invariant-loop-i
invariant-loop-i l = l.glyphs.items ≡ glyph_bytes_in_plane_2 l.planes.plane2 l.i
