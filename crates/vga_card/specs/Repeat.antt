-- Rows that are copied: what a line shows if it shows the same memory as an earlier line.
use Rattle.std.specs.Prelude.{◌≡◌, ◌<◌, ℕ, ◌-◌, true, List, ◌++◌, length, drop, map}
use Rattle.vga_host.specs.Graphics.{is_graphics}
use Rattle.vga_crtc.specs.declared.beam.Beam.{Beam}
use Rattle.vga_dots.specs.Display.{DisplayState}
use Rattle.vga_dots.specs.Repeat.{BeginAtSameFetch}
use Rattle.vga_card.specs.Picture.{Dot}
use Rattle.vga_card.specs.Line.{displayed_line_dots}

-- a dot of the same colour on another line
abbrev pub dot_moved_to_line : ℕ → Dot → Dot
dot_moved_to_line v dot = record { line = v; colour = dot.colour }

-- the last n of some dots, on another line
abbrev pub last_dots_moved_to_line : ℕ → ℕ → List Dot → List Dot
last_dots_moved_to_line v n dots = map (dot_moved_to_line v) (drop (length dots - n) dots)

-- the display with another beam
abbrev pub with_beam : DisplayState → Beam → DisplayState
with_beam d b = record d { crtc = record d.crtc { beam = b } }

-- some dots end with those of the whole line that has this beam
pub record EndsWithLine (d : DisplayState) (dots : List Dot) (b : Beam) : Type 0 where
  pub prefix : List Dot
  pub whole : dots ≡ prefix ++ displayed_line_dots (with_beam d b)

-- the beam's line, in graphics, shows the same as an earlier line of the frame, drawn with beam b
pub record ShowsLineAgain (d : DisplayState) (b : Beam) : Type 0 where
  pub graphics : is_graphics d.host ≡ true
  pub fetch : BeginAtSameFetch b d.crtc.beam
  pub later : b.line < d.crtc.beam.line
