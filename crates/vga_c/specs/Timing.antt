-- When the frame ends and input status 1 changes next, as the caller gets it.
use Rattle.std.specs.Prelude.{◌≡◌, ℕ, ◌*◌, true, if◌then◌else◌}
use Rattle.vga_card.specs.Card.{CardState}
use Rattle.vga_card.specs.Frames.{card_dots_to_frame_end}
use Rattle.vga_card.specs.Clock.{StatusBitFirstChangesAfterDots, StatusBitNeverChanges, clock_rate, dots_a_line}
use Rattle.vga_card.specs.Clock.{lines_a_frame, is_rate_halved}
use Rattle.vga_c.specs.declared.timing.Timing.{Timing}
use Rattle.vga_c.specs.Handle.{HandleState, machine_after_owed_dots}

-- the number that stands in place of a number of dots if the bit never changes
abbrev pub never_instead_of_dots : ℕ
never_instead_of_dots = 0xFFFF_FFFF

-- after n dots a bit of input status 1 changes next, or it never does
abbrev pub IsNextStatusChange : ℕ → CardState → ℕ → Type 0
IsNextStatusChange i c n = (n ≡ never_instead_of_dots → StatusBitNeverChanges i c) × (¬ (n ≡ never_instead_of_dots) → StatusBitFirstChangesAfterDots i c n)

-- the dots to the end of the frame under way, and to the next changes of bits 0 and 3 of input
-- status 1; the dots of a line and of a frame, and a frame's lines; the clock's rate, and its
-- divisor
pub record IsTiming (c : CardState) (told : Timing) : Type 0 where
  pub frame : told.to_frame ≡ card_dots_to_frame_end c
  pub display : IsNextStatusChange 0 c told.to_display
  pub retrace : IsNextStatusChange 3 c told.to_retrace
  pub line : told.line_dots ≡ dots_a_line c
  pub whole : told.frame_dots ≡ told.line_dots * told.lines
  pub lines : told.lines ≡ lines_a_frame c
  pub rate : told.rate ≡ clock_rate c.misc
  pub divisor : told.rate_divisor ≡ (if is_rate_halved c then 2 else 1)

-- an open card answers its timing: the dots to the next events, the sizes of lines and frames, and
-- the clock's rate
abbrev pub AnswersTiming : HandleState → Timing → ℕ → Type 0
AnswersTiming old told status = old.is_open ≡ true →
    IsTiming (machine_after_owed_dots old).card told × (status ≡ 0)
