-- Lines of graphics that show the same memory: those of one row of characters, and the two of a
-- doubled line.
-- From the IBM PS/2 Hardware Interface Technical Reference, Video Subsystems, "Maximum Scan Line
-- Register" and "All Points Addressable Modes".
use Rattle.std.specs.Prelude.{◌≡◌}
use Rattle.vga_crtc.specs.declared.beam.Beam.{Beam}

-- the lines of two beams begin at the same counter, and line compare was reached before both or
-- before neither
pub record BeginAtSameFetch (b c : Beam) : Type 0 where
  pub base : c.base ≡ b.base
  pub split : c.split ≡ b.split
