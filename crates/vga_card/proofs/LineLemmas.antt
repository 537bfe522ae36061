-- The adapter after a whole line.
use Rattle.std.proofs.Common.{◌≡◌, ℕ, ◌+◌, ◌-◌, ◌*◌, ◌/◌, ◌%◌, ◌<◌, ◌≤◌, ◌⊎◌, ⊎_elim, sym, ap, subst, ◌∙◌, arith, List, ◌++◌}
use Rattle.vga_host.specs.Host.{HostState}
use Rattle.vga_host.specs.Sequencer.{character_width as host_width}
use Rattle.vga_crtc.specs.declared.beam.Beam.{Beam}
use Rattle.vga_crtc.specs.Crtc.{CrtcState}
use Rattle.vga_crtc.specs.Beam.{is_first_dot_of_frame, characters, with_frame_start_taken, next_line, crtc_with_start_taken, after_dots, dots as beam_dots}
use Rattle.vga_crtc.specs.Raster.{dots_to_line_end, dots_to_frame_end, IsLineStart, IsFrameStart, IsNextLine, IsLineTaken, beam_at_dot_of_line, dots_per_line as line_length}
use Rattle.vga_dots.specs.Line.{with_beam_at_dot_of_character}
use Rattle.vga_card.specs.Picture.{Dot}
use Rattle.vga_card.specs.Card.{CardState}
use Rattle.vga_card.specs.Dots.{character_width, dots_of_frame_so_far, display_dot, dot, dots}
use Rattle.vga_card.specs.Frames.{card_dots_to_frame_end, concatenated_dots, display_dot_after_dots}
use Rattle.vga_card.specs.Line.{displayed_line_dots, display_with_start_taken, card_dots_to_line_end}
use Rattle.vga_card.specs.Valid.{count_unless_frame_start, IsLineDrawnToBeam}
use Rattle.vga_card.proofs.DotLemmas.{dots_split, dots_more, dots_none}
use Rattle.vga_card.proofs.FrameLemmas.{FramesEnd, dots_are_places, dots_host, dots_change_only_beam_and_picture, wide}
use Rattle.vga_card.proofs.PlaceLemmas.{StartStays, decided, elsewhere}
use Rattle.vga_card.proofs.RowLemmas.{collect_same}

-- what the CRT controller promises of a line: its dots begin with the start of a frame taken, they are at their places,
-- they are counted, and the line leads to the next
abbrev pub DotsBegin : Type 0
DotsBegin = (cw : ℕ) (r : List ℕ) (n : ℕ) (b : Beam) → 0 < n → beam_dots cw r n b ≡ beam_dots cw r n (with_frame_start_taken r b)

abbrev pub BeamInLine : Type 0
BeamInLine = (cw : ℕ) (r : List ℕ) (b : Beam) (n : ℕ) → IsLineStart b → 0 < cw → n < line_length cw r →
    with_frame_start_taken r (beam_dots cw r n b) ≡ beam_at_dot_of_line cw (with_frame_start_taken r b) n

abbrev pub LineCounts : Type 0
LineCounts = (cw : ℕ) (r : List ℕ) (b : Beam) → IsLineStart b → 0 < cw → dots_to_line_end cw r b ≡ line_length cw r

abbrev pub LineMoves : Type 0
LineMoves = (r : List ℕ) (b : Beam) → IsNextLine r b (next_line r b) ⊎ IsFrameStart (next_line r b)

start_stays : StartStays → (r : List ℕ) (b : Beam) → IsLineStart b → IsLineStart (with_frame_start_taken r b)
start_stays stays r b start = let place = stays r b in record { character = place.character ∙ start.character; dot = place.dot ∙ start.dot }

pub started_start : StartStays → (c : CrtcState) → IsLineStart c.beam → IsLineStart (crtc_with_start_taken c).beam
unfolding crtc_with_start_taken
started_start stays c start = start_stays stays c.registers c.beam start

pub few_dots : (c : CardState) → (0 < card_dots_to_line_end c) × (card_dots_to_line_end c ≤ card_dots_to_frame_end c)
unfolding dots_to_frame_end dots_to_line_end
few_dots c = (omega arith, omega arith)

module _ (stays : StartStays) (begin : DotsBegin) (places : BeamInLine) (counts : LineCounts) (frames : FramesEnd) where
  -- the display dots of a line, one place after another
  line_places : (c : CardState) → IsLineStart c.crtc.beam → concatenated_dots (display_dot_after_dots c) (card_dots_to_line_end c) ≡ displayed_line_dots (display_with_start_taken c)
  unfolding displayed_line_dots crtc_with_start_taken after_dots
  line_places c start =
      let w = character_width c in
      let r = c.crtc.registers in
      let b = c.crtc.beam in
      let some : 0 < w = wide _ in
      ap (concatenated_dots (display_dot_after_dots c)) (counts w r b start some)
      ∙ collect_same (display_dot_after_dots c) (λ i. display_dot c.host (with_beam_at_dot_of_character (crtc_with_start_taken c.crtc) (i / w) (i % w)) c.attr c.dac) (characters r * w)
      (λ i l. ap (λ (x : Beam). display_dot c.host (record c.crtc { beam = x }) c.attr c.dac) (places w r b i start some l))

  same_beam : (cw : ℕ) (c new : CrtcState) → 0 < cw → IsLineStart c.beam → IsLineTaken cw (crtc_with_start_taken c) new →
      new ≡ after_dots c cw (dots_to_line_end cw c.registers c.beam)
  unfolding crtc_with_start_taken after_dots
  same_beam cw c new some start line =
      let r = c.registers in
      let s : Beam = with_frame_start_taken r c.beam in
      let n = dots_to_line_end cw r c.beam in
      let e : dots_to_line_end cw r s ≡ n = counts cw r s (start_stays stays r c.beam start) some ∙ sym (counts cw r c.beam start some) in
      let more : 0 < n = omega (arith, e, line.ends.some) in
      line.by_dots ∙ ap (λ m. record c { beam = beam_dots cw r m s }) e ∙ ap (λ (b : Beam). record c { beam = b }) (sym (begin cw r n c.beam more))

  -- a whole line, from the parts that it changes
  pub line_is : (c : CardState) (crtc : CrtcState) (drawn : List Dot) → IsLineStart c.crtc.beam → IsLineTaken (character_width c) (crtc_with_start_taken c.crtc) crtc →
      drawn ≡ dots_of_frame_so_far c ++ displayed_line_dots (display_with_start_taken c)
      → record c { crtc = crtc; drawn = drawn } ≡ dots (card_dots_to_line_end c) c
  line_is c crtc drawn start moves draws =
      let n = card_dots_to_line_end c in
      let count = few_dots c in
      ap (λ (x : CrtcState). record c { crtc = x; drawn = drawn }) (same_beam (character_width c) c.crtc crtc (wide _) start moves)
      ∙ ap (λ (x : List Dot). record c { crtc = after_dots c.crtc (character_width c) n; drawn = x }) (draws
      ∙ ap (λ x. dots_of_frame_so_far c ++ x) (sym (line_places c start)) ∙ sym (dots_are_places frames c n count.0 count.1))
      ∙ sym (dots_change_only_beam_and_picture n c)

-- after a line nothing is drawn of the beam's
pub line_moves : StartStays → LineMoves → (cw : ℕ) (old new : CrtcState) (line width : ℕ) → IsLineTaken cw old new → line ≤ old.beam.line →
    IsLineDrawnToBeam new.beam 0 (count_unless_frame_start new.beam line) (count_unless_frame_start new.beam width)
unfolding after_dots
line_moves stays leads cw old new line width by_dots below =
    let r = old.registers in
    let s : Beam = with_frame_start_taken r old.beam in
    let m : Beam = new.beam in
    let place = stays r old.beam in
    let e : m ≡ next_line r s = ap (λ (x : CrtcState). x.beam) by_dots.by_dots ∙ by_dots.ends.next in
    decided (is_first_dot_of_frame m) m line width (λ away. ⊎_elim
    (λ (next : IsNextLine r s (next_line r s)).
    let on : m.line ≡ s.line + 1 = ap (λ (x : Beam). x.line) e ∙ next.line in
    record { below = omega (arith, on, place.line); few = λ q. absurd (omega (arith, on, place.line, q)) })
    (λ (start : IsFrameStart (next_line r s)). absurd (elsewhere m away (subst IsFrameStart (sym e) start)))
    (leads r s))

pub line_went : (left line : ℕ) (s new r : CardState) → line ≤ left → line ≡ card_dots_to_line_end s → new ≡ dots (card_dots_to_line_end s) s → dots left s ≡ r →
    dots (left - line) new ≡ r
line_went left line s new r l e n h =
    let z : line + (left - line) ≡ left = omega arith in
    ap (dots (left - line)) (n ∙ ap (λ i. dots i s) (sym e)) ∙ sym (dots_split line (left - line) s) ∙ ap (λ i. dots i s) z ∙ h

pub dot_went : (left : ℕ) (s new r : CardState) → 0 < left → new ≡ dot s → dots left s ≡ r → dots (left - 1) new ≡ r
dot_went left s new r l n h =
    let z : 1 + (left - 1) ≡ left = omega arith in
    let o : 0 + 1 ≡ 1 = omega arith in
    let one : dots 1 s ≡ dot s = ap (λ i. dots i s) (sym o) ∙ dots_more 0 s ∙ ap dot (dots_none s) in
    ap (dots (left - 1)) (n ∙ sym one) ∙ sym (dots_split 1 (left - 1) s) ∙ ap (λ i. dots i s) z ∙ h

pub width_kept : (n : ℕ) (s new : CardState) → new ≡ dots n s → character_width s ≡ character_width new
width_kept n s new e = ap (λ (h : HostState). host_width h) (sym (dots_host n s) ∙ ap (λ (x : CardState). x.host) (sym e))

pub width_kept_dot : (s new : CardState) → new ≡ dot s → character_width s ≡ character_width new
unfolding dot
width_kept_dot s new e = ap character_width (sym e)

pub some_taken : (left line : ℕ) (s : CardState) → line ≡ card_dots_to_line_end s → 0 < left → left - line < left
some_taken left line s e some = let count = few_dots s in omega (arith, e, count.0, some)
