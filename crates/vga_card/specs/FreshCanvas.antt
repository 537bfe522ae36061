-- The adapter without the dots that no step can see any more: those of the frame that ended, while
-- the beam is at the first dot of the next. A saved and restored adapter is in this state.
use Rattle.std.specs.Prelude.{ℕ, ◌≡◌, ◌<◌, false}
use Rattle.vga_crtc.specs.Beam.{is_first_dot_of_frame}
use Rattle.vga_card.specs.Card.{CardState}
use Rattle.vga_card.specs.Cycles.{out_cycle, inp_cycle, put_cycle, get_cycle}
use Rattle.vga_card.specs.WordCycles.{out_word_cycle, inp_word_cycle, put_word_cycle}
use Rattle.vga_card.specs.WordCycles.{get_word_cycle}
use Rattle.vga_card.specs.Dots.{dots_of_frame_so_far, dots}
use Rattle.vga_card.specs.Frames.{frame}

-- the card with only the dots of the frame under way: none at its first dot
abbrev pub without_dots_of_ended_frame : CardState → CardState
without_dots_of_ended_frame c = record c { drawn = dots_of_frame_so_far c }

-- what a cycle leaves, with a fresh canvas, and what it returns
abbrev pub outcome_without_dots_of_ended_frame : {A : Type 0} → CardState × A → CardState × A
outcome_without_dots_of_ended_frame after = (without_dots_of_ended_frame after.0, after.1)

-- No step tells an adapter with a fresh canvas from the adapter itself: only the dots drawn of the
-- frame that ended differ, and no step reads these. Past the first dot of a frame they are equal. A cycle has the same answer on both, and leaves the same state but for the
-- canvas. One dot or more lead both to the same state, and so does a frame.
pub record DotsOfEndedFrameMakeNoDifference : Type 0 where
  pub under_way : (c : CardState) → is_first_dot_of_frame c.crtc.beam ≡ false → without_dots_of_ended_frame c ≡ c
  pub fresh : (c : CardState) → dots_of_frame_so_far (without_dots_of_ended_frame c) ≡ dots_of_frame_so_far c
  pub out : (c : CardState) (port v : ℕ) → out_cycle (without_dots_of_ended_frame c) port v
      ≡ outcome_without_dots_of_ended_frame (out_cycle c port v)
  pub inp : (c : CardState) (port : ℕ) → inp_cycle (without_dots_of_ended_frame c) port
      ≡ outcome_without_dots_of_ended_frame (inp_cycle c port)
  pub put : (c : CardState) (address v : ℕ) → put_cycle (without_dots_of_ended_frame c) address v
      ≡ outcome_without_dots_of_ended_frame (put_cycle c address v)
  pub get : (c : CardState) (address : ℕ) → get_cycle (without_dots_of_ended_frame c) address
      ≡ outcome_without_dots_of_ended_frame (get_cycle c address)
  pub out_word : (c : CardState) (port v : ℕ) → out_word_cycle (without_dots_of_ended_frame c) port v
      ≡ outcome_without_dots_of_ended_frame (out_word_cycle c port v)
  pub inp_word : (c : CardState) (port : ℕ) → inp_word_cycle (without_dots_of_ended_frame c) port
      ≡ outcome_without_dots_of_ended_frame (inp_word_cycle c port)
  pub put_word : (c : CardState) (address v : ℕ) → put_word_cycle (without_dots_of_ended_frame c) address v
      ≡ outcome_without_dots_of_ended_frame (put_word_cycle c address v)
  pub get_word : (c : CardState) (address : ℕ) → get_word_cycle (without_dots_of_ended_frame c) address
      ≡ outcome_without_dots_of_ended_frame (get_word_cycle c address)
  pub dots : (n : ℕ) (c : CardState) → 0 < n → dots n (without_dots_of_ended_frame c) ≡ dots n c
  pub frame : (c : CardState) → frame (without_dots_of_ended_frame c) ≡ frame c
