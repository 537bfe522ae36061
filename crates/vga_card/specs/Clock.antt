-- The clock: when the frame under way ends and when the bits of input status 1 change next, if no
-- register is written meanwhile, and how fast dots come.
-- From the IBM PS/2 Hardware Interface Technical Reference, Video Subsystems, "Input Status
-- Register 1", "Miscellaneous Output Register" and "Clocking Mode Register"; that a clock which the
-- adapter has not counts as the first is this adapter's choice.
use Rattle.std.specs.Prelude.{◌≡◌, ℕ, ◌*◌, ◌<◌, ◌==◌, Bool, not, if◌then◌else◌, MatchOption}
use Rattle.vga_bits.specs.Bits.{is_set, field}
use Rattle.vga_host.specs.Sequencer.{is_clock_halved}
use Rattle.vga_crtc.specs.Beam.{characters, lines}
use Rattle.vga_crtc.specs.Status.{status}
use Rattle.vga_card.specs.declared.clock.RasterTiming.{RasterTiming}
use Rattle.vga_card.specs.Card.{CardState}
use Rattle.vga_card.specs.Dots.{character_width, dots}
use Rattle.vga_card.specs.Frames.{card_dots_to_frame_end}

-- a bit of input status 1 after n dots
abbrev pub status_bit_after_dots : ℕ → CardState → ℕ → Bool
status_bit_after_dots i c n = is_set (status (dots n c).crtc) i

-- n dots change this bit of input status 1, and no smaller number of dots does
pub record StatusBitFirstChangesAfterDots (i : ℕ) (c : CardState) (n : ℕ) : Type 0 where
  pub changed : status_bit_after_dots i c n ≡ not (status_bit_after_dots i c 0)
  pub first : (m : ℕ) → m < n → status_bit_after_dots i c m ≡ status_bit_after_dots i c 0

-- no number of dots changes this bit of input status 1
abbrev pub StatusBitNeverChanges : ℕ → CardState → Type 0
StatusBitNeverChanges i c = (m : ℕ) → status_bit_after_dots i c m ≡ status_bit_after_dots i c 0

-- dots a second, as the miscellaneous output register's bits 3 and 2 select the clock
abbrev pub clock_rate : ℕ → ℕ
clock_rate misc = if field misc 3 2 == 1 then 28322000 else 25175000

-- how many dots a line has
abbrev pub dots_a_line : CardState → ℕ
dots_a_line c = characters c.crtc.registers * character_width c

-- how many lines a frame has
abbrev pub lines_a_frame : CardState → ℕ
lines_a_frame c = lines c.crtc.registers

-- the sequencer halves the rate
abbrev pub is_rate_halved : CardState → Bool
is_rate_halved c = is_clock_halved c.host

-- What a `RasterTiming` contains: the dots to the end of the frame, as `FrameTakesFewestDots` says; the dots to the
-- next change of bit 0 of input status 1, the display, and of bit 3, the vertical retrace; the dots
-- of a line and of a frame, and a frame's lines; the rate, and whether it is halved.
pub record IsRasterTiming (c : CardState) (told : RasterTiming) : Type 0 where
  pub frame : told.to_frame ≡ card_dots_to_frame_end c
  pub display : MatchOption told.to_display (StatusBitNeverChanges 0 c) (StatusBitFirstChangesAfterDots 0 c)
  pub retrace : MatchOption told.to_retrace (StatusBitNeverChanges 3 c) (StatusBitFirstChangesAfterDots 3 c)
  pub line : told.line_dots ≡ dots_a_line c
  pub whole : told.frame_dots ≡ told.line_dots * told.lines
  pub lines : told.lines ≡ lines_a_frame c
  pub rate : told.rate ≡ clock_rate c.misc
  pub halved : told.is_halved ≡ is_rate_halved c
