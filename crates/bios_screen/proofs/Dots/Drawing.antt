-- A frame draws its picture, whatever the mode shows.
use Rattle.std.proofs.Common.{◌≡◌, ℕ, ◌+◌, ◌*◌, ◌/◌, ◌%◌, ◌<◌, ◌≤◌, ⊎_elim, refl, sym, ap, subst, ◌∙◌, arith, Bool, true, false, List, [], ◌∷◌, ◌++◌}
use Rattle.std.specs.Prelude.{nat_lt, nat_le, if◌then◌else◌, ◌&&◌}
use Rattle.std.proofs.lemmas.Bool.{cases_lt}
use Rattle.std.proofs.lemmas.Bool.Decides.{nat_tests}
use Rattle.std.proofs.lemmas.Nat.{div-add-mod', div_below, mod_below, row_fits, mul-add-lt, mul-le}
use Rattle.bios_screen.proofs.Prelude.{Beam, CrtcState, first_counter, beam_at_place_of_regular_frame, CardState, Raster, DrawsDotColours}
use Rattle.vga_crtc.specs.Fields.{horizontal_display_end, vertical_display_end}
use Rattle.vga_crtc.specs.Beam.{characters, lines, with_frame_start_taken, crtc_with_start_taken, after_dots, dots as beam_dots}
use Rattle.vga_crtc.specs.Status.{is_display}
use Rattle.vga_crtc.specs.Raster.{dots_to_frame_end, IsFrameStart, IsRegularFrameWithoutSplit, beam_at_dot_of_frame}
use Rattle.vga_crtc.proofs.Counts.{frame_left as dots_left_of_frame}
use Rattle.vga_crtc.proofs.Dots.{dots_none}
use Rattle.vga_crtc.proofs.Ends.{same_frame_count, frame_ends as frames_end}
use Rattle.vga_crtc.proofs.Frames.{at_dot, started_goes_on}
use Rattle.vga_crtc.proofs.Moves.{first_dot_starts, started_place}
use Rattle.vga_dots.specs.Colour.{dot_colour}
use Rattle.vga_card.specs.Picture.{Dot, lines_of_dots, bytes_of_dots}
use Rattle.vga_card.specs.Dots.{character_width, dots_of_frame_so_far, display_dot, dots}
use Rattle.vga_card.specs.Frames.{card_dots_to_frame_end, frame, concatenated_dots, display_dot_after_dots}
use Rattle.vga_card.proofs.FrameLemmas.{dots_change_only_beam_and_picture, frame_takes_fewest_dots, dots_are_places, equally_wide_rows_make_a_picture}
use Rattle.bios_screen.specs.Raster.{IsRaster, raster_of, HasRaster, Colours, shown_dots_of_line, all_dots_of_line, dots_of_frame, colour_at_beam_place, IsAtDot, picture_dot}
use Rattle.bios_screen.specs.Raster.{PictureDotsDrawn, GoesOnWithinFrame, FrameEnded, IsPictureOf, picture_bytes, FrameDrawn}
use Rattle.bios_screen.proofs.Base.Tests.{both_true, lt_is, le_is, lt_test, le_test, not_lt, not_le}
use Rattle.bios_screen.proofs.Base.DotLists.{same_collected, dot_there, one_dot, row_dots, whole_picture, picture_lines, picture_bytes_are}

pub wide : (v : Bool) → 0 < (if v then 8 else 9)
wide true = omega arith
wide false = omega arith

-- ---- one dot

-- a CRT controller with another beam
abbrev beamed : CrtcState → Beam → CrtcState
beamed s b = record s { beam = b }

abbrev seen : CardState → Beam → List Dot
seen c b = if is_display c.crtc.registers b then record { line = b.line; colour = dot_colour c.host (beamed c.crtc b) c.attr c.dac } ∷ [] else []

seen_at : (c : CardState) (n : ℕ) → display_dot_after_dots c n ≡ seen c (with_frame_start_taken c.crtc.registers (beam_dots (character_width c) c.crtc.registers n c.crtc.beam))
unfolding display_dot crtc_with_start_taken after_dots
seen_at c n = refl

-- a character is shown exactly if its dots are
shown_column : (w e x k : ℕ) → k < w → nat_le x e ≡ nat_lt (x * w + k) ((e + 1) * w)
shown_column w e x k lk = ⊎_elim
    (λ (out : e < x).
    let past = row_fits e w x w out (omega arith) in
    not_le x e out ∙ sym (not_lt (x * w + k) ((e + 1) * w) (omega (arith, past))))
    (λ (within : x ≤ e).
    let fits = mul-add-lt x w k (e + 1) (omega arith) lk in
    le_test x e within ∙ sym (lt_test (x * w + k) ((e + 1) * w) (omega (arith, fits))))
    (cases_lt e x)

shown_line : (e v : ℕ) → nat_le v e ≡ nat_lt v (e + 1)
shown_line e v = grind (arith, nat_tests)

chosen : (v : Bool) (xs ys : List Dot) → (v ≡ true → xs ≡ ys) → (if v then xs else []) ≡ (if v then ys else [])
chosen true xs ys h = h refl
chosen false xs ys h = refl

place_of : (n line cw : ℕ) → n / line * line + (n % line / cw * cw + n % line % cw) ≡ n
place_of n line cw = ap (λ x. n / line * line + x) (div-add-mod' (n % line) cw) ∙ div-add-mod' n line

-- at the first dot of a frame nothing has been drawn
nothing_yet : (c : CardState) → IsFrameStart c.crtc.beam → dots_of_frame_so_far c ≡ []
nothing_yet c s = ap (λ v. if v then [] else c.drawn) ((first_dot_starts c.crtc.beam).1 s)

-- the beam, i dots after dot n
beam_on : (c : CardState) (start n i : ℕ) → IsRegularFrameWithoutSplit c.crtc.registers → IsAtDot (raster_of c) c start n → n + i < dots_of_frame (raster_of c)
    → with_frame_start_taken c.crtc.registers (beam_dots (character_width c) c.crtc.registers i c.crtc.beam)
    ≡ beam_at_dot_of_frame (character_width c) c.crtc.registers start c.crtc.beam.frame (n + i)
unfolding dots_of_frame
beam_on c start n i regular at l = started_goes_on (character_width c) c.crtc.registers c.crtc.beam start c.crtc.beam.frame n i regular (wide _) l at.beam

frame_left : (c : CardState) (start n : ℕ) → IsAtDot (raster_of c) c start n → n + card_dots_to_frame_end c ≡ dots_of_frame (raster_of c)
unfolding dots_of_frame
frame_left c start n at =
    let w = character_width c in
    let r = c.crtc.registers in
    ap (λ k. n + k) (sym (same_frame_count w r c.crtc.beam) ∙ ap (dots_to_frame_end w r) at.beam)
    ∙ dots_left_of_frame w r start c.crtc.beam.frame n (wide _) at.within

module _ (c : CardState) (start : ℕ) (f : Colours) (draws : DrawsDotColours (raster_of c) c start f) where
  -- dot k of character x of line v is the picture's
  place_shows : (v x k : ℕ) → x < characters c.crtc.registers → k < character_width c
      → seen c (beam_at_place_of_regular_frame c.crtc.registers start c.crtc.beam.frame v x k)
      ≡ picture_dot (raster_of c) f (v * (characters c.crtc.registers * character_width c) + (x * character_width c + k))
  place_shows v x k lx lk =
      let m = raster_of c in
      let r = c.crtc.registers in
      let w = character_width c in
      let hde = horizontal_display_end r in
      let vde = vertical_display_end r in
      let at = x * w + k in
      let colour = colour_at_beam_place c start v x k in
      let small : at < characters r * w = omega (arith, mul-add-lt x w k (characters r) lx lk) in
      ap (λ t. if t && nat_le v vde then record { line = v; colour = colour } ∷ [] else []) (shown_column w hde x k lk)
      ∙ ap (λ t. if nat_lt at ((hde + 1) * w) && t then record { line = v; colour = colour } ∷ [] else []) (shown_line vde v)
      ∙ chosen (nat_lt at ((hde + 1) * w) && nat_lt v (vde + 1)) (record { line = v; colour = colour } ∷ []) (one_dot f v at) (λ t.
      let parts = both_true (nat_lt at ((hde + 1) * w)) (nat_lt v (vde + 1)) t in
      let lc : x ≤ hde = le_is x hde (shown_column w hde x k lk ∙ parts.0) in
      let lv : v < vde + 1 = lt_is v (vde + 1) parts.1 in
      ap (λ q. record { line = v; colour = q } ∷ []) (draws v x k lv (omega arith) lk))
      ∙ sym (dot_there m f v at small)

  -- the dot that comes i dots after dot n is the picture's
  dot_shows : (n i : ℕ) → IsRegularFrameWithoutSplit c.crtc.registers → IsAtDot (raster_of c) c start n → n + i < dots_of_frame (raster_of c) →
      display_dot_after_dots c i ≡ picture_dot (raster_of c) f (n + i)
  unfolding dots_of_frame
  dot_shows n i regular at l =
      let r = c.crtc.registers in
      let w = character_width c in
      let line = characters r * w in
      let some : 0 < w = wide _ in
      let full : 0 < line = omega (arith, mul-le 1 1 (characters r) w (omega arith) some) in
      let j = n + i in
      let lat : j % line < line = mod_below j line full in
      let lx : j % line / w < characters r = div_below (j % line) w (characters r) some lat in
      let lk : j % line % w < w = mod_below (j % line) w some in
      seen_at c i ∙ ap (seen c) (beam_on c start n i regular at l)
      ∙ place_shows (j / line) (j % line / w) (j % line % w) lx lk ∙ ap (picture_dot (raster_of c) f) (place_of j line w)

  places_drawn : (n : ℕ) → IsRegularFrameWithoutSplit c.crtc.registers → IsAtDot (raster_of c) c start n → PictureDotsDrawn (raster_of c) c n f
  places_drawn n regular at j lo hi =
      let total = frame_left c start n at in
      dots_are_places frames_end c j lo (omega (arith, total))
      ∙ ap (λ l. dots_of_frame_so_far c ++ l) (same_collected (display_dot_after_dots c) (λ i. picture_dot (raster_of c) f (n + i)) j (λ i h.
      dot_shows n i regular at (omega arith)))

  frame_ended : (n : ℕ) → IsRegularFrameWithoutSplit c.crtc.registers → IsAtDot (raster_of c) c start n → FrameEnded (raster_of c) c n f
  unfolding after_dots
  frame_ended n regular at =
      let total = frame_left c start n at in
      let kept = dots_change_only_beam_and_picture (card_dots_to_frame_end c) c in
      record {
        count = total;
        drawn = places_drawn n regular at (card_dots_to_frame_end c) (frame_takes_fewest_dots frames_end c).some (omega (arith, total));
        leaves = kept ∙ ap (λ (b : Beam). record c { crtc = record c.crtc { beam = b }; drawn = (frame c).drawn })
            (sym (ap (λ (s : CardState). s.crtc.beam) kept) ∙ (frame_takes_fewest_dots frames_end c).next);
      }

goes_on_from : (c : CardState) (start n : ℕ) → IsRegularFrameWithoutSplit c.crtc.registers → IsAtDot (raster_of c) c start n → GoesOnWithinFrame (raster_of c) c start n
unfolding after_dots
goes_on_from c start n regular at j l =
    let w = character_width c in
    let r = c.crtc.registers in
    let b = beam_dots w r j c.crtc.beam in
    let on = beam_on c start n j regular at l in
    let kept = dots_change_only_beam_and_picture j c in
    let frame_is : c.crtc.beam.frame ≡ b.frame = sym (ap (λ (y : Beam). y.frame) on) ∙ (started_place r b).frame in
    record {
      at = subst (λ (s : CardState). IsAtDot (raster_of c) s start (n + j)) (sym kept)
          (record { within = l; beam = on ∙ ap (λ f. beam_at_dot_of_frame w r start f (n + j)) frame_is });
      keeps = kept ∙ ap (λ (y : Beam). record c { crtc = record c.crtc { beam = y }; drawn = (dots j c).drawn })
          (sym (ap (λ (s : CardState). s.crtc.beam) kept));
      frame = ap (λ (s : CardState). s.crtc.beam.frame) kept ∙ sym frame_is;
    }

-- at the first dot of a frame the adapter is at dot 0
at_start : (c : CardState) → IsRegularFrameWithoutSplit c.crtc.registers → IsFrameStart c.crtc.beam → IsAtDot (raster_of c) c (first_counter c.crtc.registers) 0
unfolding dots_of_frame
at_start c regular start =
    let w = character_width c in
    let r = c.crtc.registers in
    let some = mul-le 1 1 (lines r) (characters r * w) (omega arith) (mul-le 1 1 (characters r) w (omega arith) (wide _)) in
    record {
      within = omega (arith, some);
      beam = ap (with_frame_start_taken r) (sym (dots_none w r c.crtc.beam)) ∙ at_dot w r c.crtc.beam 0 regular start (wide _) (omega (arith, some));
    }

-- ---- by the numbers of a mode

pub dots_are_picture : (m : Raster) (c : CardState) (start n : ℕ) (f : Colours) → HasRaster m c → IsAtDot m c start n → DrawsDotColours m c start f →
    PictureDotsDrawn m c n f
dots_are_picture m c start n f has = subst (λ (k : Raster). IsAtDot k c start n → DrawsDotColours k c start f →
    PictureDotsDrawn k c n f) has.numbers (λ at draws. places_drawn c start f draws n has.regular at)

pub dots_go_on : (m : Raster) (c : CardState) (start n : ℕ) → HasRaster m c → IsAtDot m c start n → GoesOnWithinFrame m c start n
dots_go_on m c start n has = subst (λ (k : Raster). IsAtDot k c start n → GoesOnWithinFrame k c start n) has.numbers (λ at. goes_on_from c start n has.regular at)

pub frame_is_ended : (m : Raster) (c : CardState) (start n : ℕ) (f : Colours) → HasRaster m c → IsAtDot m c start n → DrawsDotColours m c start f → FrameEnded m c n f
frame_is_ended m c start n f has = subst (λ (k : Raster). IsAtDot k c start n → DrawsDotColours k c start f →
    FrameEnded k c n f) has.numbers (λ at draws. frame_ended c start f draws n has.regular at)

pub starts_at_0 : (m : Raster) (c : CardState) → HasRaster m c → IsFrameStart c.crtc.beam → IsAtDot m c (first_counter c.crtc.registers) 0
starts_at_0 m c has start = subst (λ (k : Raster). IsAtDot k c (first_counter c.crtc.registers) 0) has.numbers (at_start c has.regular start)

-- if all dots of a frame are drawn, they are the picture
pub all_are_picture : (m : Raster) (drawn : List Dot) (f : Colours) → IsRaster m → drawn ≡ concatenated_dots (picture_dot m f) (dots_of_frame m) → IsPictureOf m drawn f
unfolding picture_bytes dots_of_frame
all_are_picture m drawn f raster e =
    let w = shown_dots_of_line m in
    let h = m.height in
    let narrow : w ≤ all_dots_of_line m = mul-le m.columns m.dots m.characters m.dots raster.narrow (omega arith) in
    let rows : drawn ≡ concatenated_dots (row_dots f w) h = e ∙ whole_picture m f narrow raster.low in
    record {
      shape = equally_wide_rows_make_a_picture w h drawn (mul-le 1 1 m.columns m.dots raster.some_columns raster.some_dots) raster.some_lines (ap lines_of_dots rows
          ∙ picture_lines f w h);
      bytes = ap bytes_of_dots rows ∙ picture_bytes_are f w h;
    }

pub frame_is_picture : (m : Raster) (c : CardState) (f : Colours) → HasRaster m c → IsFrameStart c.crtc.beam → DrawsDotColours m c (first_counter c.crtc.registers) f →
    FrameDrawn m c f
frame_is_picture m c f has start draws =
    let ended = frame_is_ended m c (first_counter c.crtc.registers) 0 f has (starts_at_0 m c has start) draws in
    let none : 0 + card_dots_to_frame_end c ≡ card_dots_to_frame_end c = omega arith in
    let all : card_dots_to_frame_end c ≡ dots_of_frame m = sym none ∙ ended.count in
    record {
      picture = all_are_picture m (frame c).drawn f has.raster (ended.drawn ∙ ap (λ l. l
          ++ concatenated_dots (λ i. picture_dot m f (0 + i)) (card_dots_to_frame_end c)) (nothing_yet c start)
          ∙ same_collected (λ i. picture_dot m f (0 + i)) (picture_dot m f) (card_dots_to_frame_end c) (λ i l. let z : 0 + i ≡ i = omega arith in ap (picture_dot m f) z)
          ∙ ap (concatenated_dots (picture_dot m f)) all);
      leaves = ended.leaves;
    }
