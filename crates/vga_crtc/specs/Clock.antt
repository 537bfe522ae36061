-- When the bits of input status 1 change: the next events of the clock, if no register is written
-- meanwhile. r are the registers, cw is the width of a character in dots.
-- From the IBM PS/2 Hardware Interface Technical Reference, Video Subsystems, "Input Status
-- Register 1" and "CRT Controller Registers".
use Rattle.std.specs.Prelude.{◌≡◌, ℕ, ◌+◌, ◌-◌, ◌*◌, ◌<◌, Bool, not, nat_lt, if◌then◌else◌, List}
use Rattle.vga_crtc.specs.declared.beam.Beam.{Beam}
use Rattle.vga_crtc.specs.Beam.{characters, dots}
use Rattle.vga_crtc.specs.Raster.{dots_to_line_end, dots_to_frame_end}

-- a test of the beam, such as one bit of input status 1, changes its result after n dots, and not
-- before
pub record ChangesAfter (test : Beam → Bool) (cw : ℕ) (r : List ℕ) (b : Beam) (n : ℕ) : Type 0 where
  pub changed : test (dots cw r n b) ≡ not (test b)
  pub first : (m : ℕ) → m < n → test (dots cw r m b) ≡ test b

-- a test of the beam has the same result after any number of dots
abbrev pub NeverChanges : (Beam → Bool) → ℕ → List ℕ → Beam → Type 0
NeverChanges test cw r b = (m : ℕ) → test (dots cw r m b) ≡ test b

-- how many dots lead to the first dot of line v: of this frame if the line is still to come, and
-- else of the next frame
unfoldable pub dots_to_line : ℕ → List ℕ → ℕ → Beam → ℕ
dots_to_line cw r v b =
    if nat_lt b.line v then (v - (b.line + 1)) * (characters r * cw) + dots_to_line_end cw r b
    else v * (characters r * cw) + dots_to_frame_end cw r b

-- how many dots lead to the first dot of character c, which is still to come in the line
unfoldable pub dots_to_character : ℕ → ℕ → Beam → ℕ
dots_to_character cw c b = (c - (b.character + 1)) * cw + (cw - (b.dot + 1)) + 1
