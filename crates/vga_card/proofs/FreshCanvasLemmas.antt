-- An adapter without the dots of a frame that ended cannot be told from one with them.
use Rattle.std.proofs.Common.{◌≡◌, ℕ, zero, suc, ◌<◌, Bool, true, false, Result, Ok, Err, if◌then◌else◌, refl}
use Rattle.std.proofs.Common.{ap, arith, List, []}
use Rattle.std.proofs.Common.{◌++◌}
use Rattle.vga_bits.specs.declared.refusal.Refusal.{Refusal}
use Rattle.vga_crtc.specs.Beam.{is_first_dot_of_frame, crtc_with_start_taken, after_dot}
use Rattle.vga_crtc.specs.Raster.{dots_to_line_end, dots_to_frame_end}
use Rattle.vga_card.specs.Picture.{Dot}
use Rattle.vga_card.specs.Card.{CardState}
use Rattle.vga_card.specs.Adapter.{CardStateWithoutBeamAndDots}
use Rattle.vga_card.specs.Cycles.{card_after_write, card_after_read}
use Rattle.vga_card.specs.Dots.{character_width, dots_of_frame_so_far, display_dot, dot, dots}
use Rattle.vga_card.specs.Frames.{card_dots_to_frame_end, frame}
use Rattle.vga_card.specs.FreshCanvas.{without_dots_of_ended_frame, outcome_without_dots_of_ended_frame, DotsOfEndedFrameMakeNoDifference}

-- ---- a cycle

written_fresh : (c : CardState) (r : Result CardStateWithoutBeamAndDots Refusal) → card_after_write (without_dots_of_ended_frame c) r ≡ outcome_without_dots_of_ended_frame (card_after_write c r)
written_fresh c (Ok a) = refl
written_fresh c (Err e) = refl

answered_fresh : (c : CardState) (r : Result (CardStateWithoutBeamAndDots × ℕ) Refusal) → card_after_read (without_dots_of_ended_frame c) r ≡ outcome_without_dots_of_ended_frame (card_after_read c r)
answered_fresh c (Ok (a, v)) = refl
answered_fresh c (Err e) = refl

-- ---- dots

twice_fresh : (v : Bool) (drawn : List Dot) → (let x : List Dot = (if v then [] else (if v then [] else drawn)) in x) ≡ (if v then [] else drawn)
twice_fresh true drawn = refl
twice_fresh false drawn = refl

canvas_fresh : (c : CardState) → dots_of_frame_so_far (without_dots_of_ended_frame c) ≡ dots_of_frame_so_far c
canvas_fresh c = twice_fresh (is_first_dot_of_frame c.crtc.beam) c.drawn

under_way_fresh : (c : CardState) → is_first_dot_of_frame c.crtc.beam ≡ false → without_dots_of_ended_frame c ≡ c
under_way_fresh c away = ap (λ (v : Bool). record c { drawn = (if v then [] else c.drawn) }) away

dot_fresh : (c : CardState) → dot (without_dots_of_ended_frame c) ≡ dot c
unfolding dot
dot_fresh c =
    ap (λ (drawn : List Dot). record c {
      crtc = after_dot c.crtc (character_width c);
      drawn = drawn ++ display_dot c.host (crtc_with_start_taken c.crtc) c.attr c.dac;
    }) (canvas_fresh c)

dots_fresh : (n : ℕ) (c : CardState) → 0 < n → dots n (without_dots_of_ended_frame c) ≡ dots n c
unfolding dots
dots_fresh zero c some = absurd (omega arith)
dots_fresh (suc n) c some = ap (dots n) (dot_fresh c)

frame_some : (c : CardState) → 0 < card_dots_to_frame_end c
unfolding dots_to_frame_end dots_to_line_end
frame_some c = omega arith

frame_fresh : (c : CardState) → frame (without_dots_of_ended_frame c) ≡ frame c
frame_fresh c = dots_fresh (card_dots_to_frame_end c) c (frame_some c)

pub cannot_be_told : DotsOfEndedFrameMakeNoDifference
cannot_be_told = record {
  under_way = under_way_fresh;
  fresh = canvas_fresh;
  out = λ c port v. written_fresh c _;
  inp = λ c port. answered_fresh c _;
  put = λ c address v. written_fresh c _;
  get = λ c address. answered_fresh c _;
  out_word = λ c port v. written_fresh c _;
  inp_word = λ c port. answered_fresh c _;
  put_word = λ c address v. written_fresh c _;
  get_word = λ c address. answered_fresh c _;
  dots = dots_fresh;
  frame = frame_fresh;
}
