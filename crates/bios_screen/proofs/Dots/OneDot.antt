-- One dot, any number of dots, and the dots to the end of a frame: the adapter follows the plain
-- screen.
use Rattle.std.proofs.Common.{◌≡◌, ℕ, zero, suc, ◌+◌, ◌-◌, ◌*◌, ◌/◌, ◌%◌, ◌<◌, ◌≤◌, ⊎_elim, refl, sym, ap, subst, ◌∙◌, arith, Bool, true, false, List, [], ◌∷◌}
use Rattle.std.proofs.Common.{◌++◌, replicate, Some}
use Rattle.std.specs.Prelude.{nat_lt, if◌then◌else◌, ◌==◌, ◌&&◌}
use Rattle.std.proofs.lemmas.Bool.{cases_lt}
use Rattle.std.proofs.lemmas.Bool.Decides.{nat_tests}
use Rattle.std.proofs.lemmas.List.{append-nil, map-append}
use Rattle.std.proofs.lemmas.Nat.{mul-le}
use Rattle.vga_crtc.specs.Crtc.{first_dot_of_frame}
use Rattle.bios_screen.proofs.Prelude.{first_counter, IsCard, CardState, BiosData, start_address, Screen, shown, Raster}
use Rattle.vga_crtc.specs.Beam.{is_first_dot_of_frame, with_frame_start_taken, after_dot, dots as beam_dots}
use Rattle.vga_crtc.specs.Raster.{IsFrameStart, beam_at_dot_of_frame}
use Rattle.vga_card.specs.Picture.{Dot, line_of_dot, lines_of_dots, line_of_each_dot_by_widths, bytes_of_dots}
use Rattle.vga_card.specs.Dots.{character_width, dots_of_frame_so_far, dot, dots}
use Rattle.vga_card.specs.Frames.{card_dots_to_frame_end, frame, concatenated_dots}
use Rattle.vga_crtc.proofs.Ends.{frame_ends as frames_end}
use Rattle.vga_crtc.proofs.Frames.{past_start, beam_goes_on}
use Rattle.vga_crtc.proofs.Moves.{first_dot_starts}
use Rattle.vga_card.proofs.BoundLemmas.{dots_bounds}
use Rattle.vga_card.proofs.DotLemmas.{dots_split}
use Rattle.vga_card.proofs.FrameLemmas.{frame_takes_fewest_dots, equally_wide_rows_make_a_picture}
use Rattle.bios_screen.specs.Picture.{dot_colour_at, picture_width, picture_height, next_frame}
use Rattle.bios_screen.specs.Raster.{Colours, raster_of, HasRaster, shown_dots_of_line, all_dots_of_line as dots_of_line, dots_of_frame, picture_dot, IsAtDot as AtDot}
use Rattle.bios_screen.specs.Raster.{IsDotsFurther, FrameEnded}
use Rattle.bios_screen.proofs.Base.DotLists.{bytes_append, no_bytes, bytes_joined, same_joined, whole_picture, picture_lines}
use Rattle.bios_screen.proofs.Dots.Drawing.{wide, dots_are_picture, dots_go_on, frame_is_ended, starts_at_0}
use Rattle.bios_screen.specs.Drawing.{dots_a_line, lines_a_frame, total_dots_of_frame_in_mode, Drawing, page_shown, picture_so_far, is_picture_dot, colour_of_frame_dot, is_last_dot_of_frame, take_dot}
use Rattle.bios_screen.specs.Drawing.{take_dots, take_frame}
use Rattle.bios_screen.specs.Follows.{BeamIsAtDotOfFrameFromAddress, DotsJoinPicture, lines_of_picture_dots_before, CardFollowsDrawing, EndsFrame}
use Rattle.bios_screen.proofs.Dots.Any.{HasFrames, frames_of}
use Rattle.bios_screen.proofs.Shows.Steady.{shown_moved, frame_shown}

-- ---- lists

pub lines_if : (v : Bool) (d : Dot) → lines_of_dots (if v then d ∷ [] else []) ≡ (if v then d.line ∷ [] else [])
lines_if true d = refl
lines_if false d = refl

pub bytes_if : (v : Bool) (d : Dot) → bytes_of_dots (if v then d ∷ [] else []) ≡ (if v then d.colour else [])
unfolding bytes_of_dots
bytes_if true d = append-nil d.colour
bytes_if false d = refl

no_line : (s : Screen) → lines_of_picture_dots_before s 0 ≡ []
unfolding lines_of_picture_dots_before
no_line s = refl

-- ---- tests

pub not_zero : (n : ℕ) → (suc n == 0) ≡ false
not_zero n = grind (arith, nat_tests)

pub is_zero : (n : ℕ) → n ≡ 0 → (n == 0) ≡ true
is_zero n e = grind (arith, nat_tests)

same_test : (a b : ℕ) → a ≡ b → (a == b) ≡ true
same_test a b e = grind (arith, nat_tests)

less_test : (a b : ℕ) → a < b → (a == b) ≡ false
less_test a b l = grind (arith, nat_tests)

is_away : (v : Bool) → (v ≡ true → ⊥) → v ≡ false
is_away true h = absurd (h refl)
is_away false h = refl

-- ---- the plain screen

-- the drawing after a dot, whether or not it is the frame's last
dot_step : (b : Drawing) (v : Bool) → is_last_dot_of_frame b ≡ v → take_dot b ≡ record {
  screen = if v then next_frame b.screen else b.screen;
  dot = if v then 0 else b.dot + 1;
  page = page_shown b;
  picture = picture_so_far b ++ colour_of_frame_dot b.screen (page_shown b) b.dot;
}
unfolding take_dot
dot_step b v e = ap (λ v. let x : Drawing = record {
  screen = if v then next_frame b.screen else b.screen;
  dot = if v then 0 else b.dot + 1;
  page = page_shown b;
  picture = picture_so_far b ++ colour_of_frame_dot b.screen (page_shown b) b.dot;
} in x) e

-- the drawing at the next dot of the frame
abbrev pub onward : Drawing → Drawing
onward b = record { screen = b.screen; dot = suc b.dot; page = page_shown b; picture = picture_so_far b ++ colour_of_frame_dot b.screen (page_shown b) b.dot }

-- the drawing at dot 0 of the next frame
abbrev pub renewed : Drawing → Drawing
renewed b = record { screen = next_frame b.screen; dot = 0; page = page_shown b; picture = picture_so_far b ++ colour_of_frame_dot b.screen (page_shown b) b.dot }

pub taken_on : (b : Drawing) → b.dot + 1 < total_dots_of_frame_in_mode b.screen.mode → take_dot b ≡ onward b
taken_on b l =
    let e : b.dot + 1 ≡ suc b.dot = omega arith in
    dot_step b false (less_test (b.dot + 1) (total_dots_of_frame_in_mode b.screen.mode) l) ∙ ap (λ n. let x : Drawing = record (onward b) { dot = n } in x) e

pub taken_last : (b : Drawing) → b.dot + 1 ≡ total_dots_of_frame_in_mode b.screen.mode → take_dot b ≡ renewed b
taken_last b e = dot_step b true (same_test (b.dot + 1) (total_dots_of_frame_in_mode b.screen.mode) e)

-- the drawing after k dots that do not end the frame
pub record IsOn (b : Drawing) (k : ℕ) : Type 0 where
  pub dot : (take_dots k b).dot ≡ b.dot + k
  pub screen : (take_dots k b).screen ≡ b.screen

pub dots_on : (k : ℕ) (b : Drawing) → b.dot + k < total_dots_of_frame_in_mode b.screen.mode → IsOn b k
unfolding take_dots
dots_on zero b l = record { dot = omega arith; screen = refl }
dots_on (suc k) b l =
    let on = taken_on b (omega arith) in
    let rest : IsOn (onward b) k = dots_on k (onward b) (omega arith) in
    let e : suc b.dot + k ≡ b.dot + suc k = omega arith in
    record {
      dot = ap (λ (x : Drawing). (take_dots k x).dot) on ∙ rest.dot ∙ e;
      screen = ap (λ (x : Drawing). (take_dots k x).screen) on ∙ rest.screen;
    }

pub taken_more : (k : ℕ) (b : Drawing) → take_dots (suc k) b ≡ take_dot (take_dots k b)
unfolding take_dots
taken_more zero b = refl
taken_more (suc k) b = taken_more k (take_dot b)

-- ---- the dots of the picture

dot_is_one : (c : CardState) → dots 1 c ≡ dot c
unfolding dots
dot_is_one c = refl

-- dot n of a frame, by the dots of a line and the width and height of the picture
abbrev pub dot_by : ℕ → ℕ → ℕ → Colours → ℕ → List Dot
dot_by line w h f n = if nat_lt (n % line) w && nat_lt (n / line) h then record { line = n / line; colour = f (n % line) (n / line) } ∷ [] else []

module _ (c : CardState) (d : BiosData) (s : Screen) (h : HasFrames c d s) where
  dot_is : (f : Colours) (n : ℕ) → picture_dot h.raster f n ≡ dot_by (dots_a_line s.mode) (picture_width s) (picture_height s) f n
  dot_is f n = rw (h.line, h.wide, h.high) refl

  dot_line : (f : Colours) (n : ℕ) → lines_of_dots (picture_dot h.raster f n) ≡ (if is_picture_dot s n then n / dots_a_line s.mode ∷ [] else [])
  dot_line f n = ap lines_of_dots (dot_is f n) ∙ lines_if (is_picture_dot s n) _

  dot_bytes : (g n : ℕ) → bytes_of_dots (picture_dot h.raster (dot_colour_at s g) n) ≡ colour_of_frame_dot s g n
  dot_bytes g n = ap bytes_of_dots (dot_is (dot_colour_at s g) n) ∙ bytes_if (is_picture_dot s n) _

  pub all_is : dots_of_frame h.raster ≡ total_dots_of_frame_in_mode s.mode
  unfolding dots_of_frame total_dots_of_frame_in_mode
  all_is = ap (λ n. n * dots_of_line h.raster) h.lines ∙ ap (λ n. lines_a_frame s.mode * n) h.line

  -- the scan lines of the picture's dots among the first n dots of a frame
  lines_collected : (f : Colours) (n : ℕ) → lines_of_picture_dots_before s n ≡ lines_of_dots (concatenated_dots (picture_dot h.raster f) n)
  unfolding lines_of_picture_dots_before
  lines_collected f zero = refl
  lines_collected f (suc n) =
      ap (λ l. l ++ (if is_picture_dot s n then n / dots_a_line s.mode ∷ [] else [])) (lines_collected f n)
      ∙ ap (λ l. lines_of_dots (concatenated_dots (picture_dot h.raster f) n) ++ l) (sym (dot_line f n))
      ∙ sym (map-append line_of_dot (concatenated_dots (picture_dot h.raster f) n) (picture_dot h.raster f n))

  all_lines : lines_of_picture_dots_before s (total_dots_of_frame_in_mode s.mode) ≡ line_of_each_dot_by_widths 0 (replicate (picture_height s) (picture_width s))
  unfolding dots_of_frame
  all_lines =
      let m = h.raster in
      let f = dot_colour_at s 0 in
      let some = h.has.raster.some_dots in
      let narrow : shown_dots_of_line m ≤ dots_of_line m = mul-le m.columns m.dots m.characters m.dots h.has.raster.narrow (omega arith) in
      ap (lines_of_picture_dots_before s) (sym all_is)
      ∙ lines_collected f (dots_of_frame m)
      ∙ ap lines_of_dots (whole_picture m f narrow h.has.raster.low)
      ∙ picture_lines f (shown_dots_of_line m) m.height
      ∙ ap (λ w. line_of_each_dot_by_widths 0 (replicate m.height w)) h.wide
      ∙ ap (λ v. line_of_each_dot_by_widths 0 (replicate v (picture_width s))) h.high

-- ---- one dot

at_of : (m : Raster) (c : CardState) (start n : ℕ) → HasRaster m c → n < dots_of_frame m → (n ≡ 0 → first_counter c.crtc.registers ≡ start) →
    BeamIsAtDotOfFrameFromAddress c start n → AtDot m c start n
at_of m c start zero has within first at = subst (λ a. AtDot m c a 0) (first refl) (starts_at_0 m c has at)
at_of m c start (suc n) has within first at = record {
  within = within;
  beam = ap (with_frame_start_taken c.crtc.registers) at ∙ past_start (character_width c) c.crtc.registers start c.crtc.beam.frame (suc n) (omega arith);
}

-- dots from dot n on join those already drawn, in the colours of the screen
pub rows_join : (c : CardState) (d : BiosData) (s : Screen) (page n : ℕ) → IsCard c → shown c d ≡ Some s → page < s.layout.pages →
    n < total_dots_of_frame_in_mode s.mode → (n ≡ 0 → page ≡ s.page)
    → BeamIsAtDotOfFrameFromAddress c (start_address d page) n → DotsJoinPicture c s page n
rows_join c d s page n z shows lp within first at j some few =
    let h = frames_of c d s z shows in
    let m = h.raster in
    let f = dot_colour_at s page in
    let all = all_is c d s h in
    let here = at_of m c (start_address d page) n h.has (omega arith) (λ e. h.first ∙ ap (start_address d) (sym (first e))) at in
    let one : ℕ → List Dot = λ i. picture_dot m f (n + i) in
    ap bytes_of_dots (dots_are_picture m c (start_address d page) n f h.has here (h.draws page lp) j some (omega arith))
    ∙ bytes_append (dots_of_frame_so_far c) (concatenated_dots one j)
    ∙ ap (λ l. bytes_of_dots (dots_of_frame_so_far c) ++ l) (bytes_joined one j ∙ same_joined (λ i. bytes_of_dots (one i)) (λ i. colour_of_frame_dot s page (n + i)) j (λ i.
    dot_bytes c d s h page (n + i)))

-- what one dot draws; the adapter still follows
pub record DotTaken (c : CardState) (d : BiosData) (b : Drawing) : Type 0 where
  pub lines : lines_of_dots (dot c).drawn ≡ lines_of_picture_dots_before b.screen (suc b.dot)
  pub bytes : bytes_of_dots (dot c).drawn ≡ (take_dot b).picture
  pub follows : CardFollowsDrawing (dot c) d (take_dot b)

module _ (c : CardState) (d : BiosData) (b : Drawing) (z : IsCard c) (is : CardFollowsDrawing c d b) where
  abbrev s : Screen
  s = b.screen

  abbrev n : ℕ
  n = b.dot

  abbrev g : ℕ
  g = page_shown b

  abbrev start : ℕ
  start = start_address d g

  h : HasFrames c d s
  h = frames_of c d s z is.shows

  within : n < dots_of_frame h.raster
  within = let w = is.within in let e = all_is c d s h in omega arith

  begins : n ≡ 0 → first_counter c.crtc.registers ≡ start
  begins e = h.first ∙ ap (λ v. start_address d (if v then s.page else b.page)) (sym (is_zero n e))

  at : AtDot h.raster c start n
  at = at_of h.raster c start n h.has within begins is.at

  ended : FrameEnded h.raster c n (dot_colour_at s g)
  ended = frame_is_ended h.raster c start n (dot_colour_at s g) h.has at (h.draws g is.page)

  drawn_is : (dot c).drawn ≡ dots_of_frame_so_far c ++ picture_dot h.raster (dot_colour_at s g) n
  drawn_is =
      let f = dot_colour_at s g in
      let none : n + 0 ≡ n = omega arith in
      let l = within in
      ap (λ (x : CardState). x.drawn) (sym (dot_is_one c))
      ∙ dots_are_picture h.raster c start n f h.has at (h.draws g is.page) 1 (omega arith) (omega arith)
      ∙ ap (λ k. dots_of_frame_so_far c ++ picture_dot h.raster f k) none

  lines_are : lines_of_dots (dot c).drawn ≡ lines_of_picture_dots_before s (suc n)
  unfolding lines_of_picture_dots_before
  lines_are =
      let one = picture_dot h.raster (dot_colour_at s g) n in
      ap lines_of_dots drawn_is ∙ map-append line_of_dot (dots_of_frame_so_far c) one
      ∙ ap (λ l. l ++ lines_of_dots one) is.lines
      ∙ ap (λ l. lines_of_picture_dots_before s n ++ l) (dot_line c d s h (dot_colour_at s g) n)

  bytes_are : bytes_of_dots (dot c).drawn ≡ picture_so_far b ++ colour_of_frame_dot s g n
  bytes_are =
      let one = picture_dot h.raster (dot_colour_at s g) n in
      ap bytes_of_dots drawn_is ∙ bytes_append (dots_of_frame_so_far c) one
      ∙ ap (λ l. l ++ bytes_of_dots one) is.bytes
      ∙ ap (λ l. picture_so_far b ++ l) (dot_bytes c d s h g n)

  -- ---- if the frame goes on
  module _ (l : n + 1 < total_dots_of_frame_in_mode s.mode) where
    later : n + 1 < dots_of_frame h.raster
    later = let e = all_is c d s h in omega arith

    away : is_first_dot_of_frame (dot c).crtc.beam ≡ false
    away = is_away (is_first_dot_of_frame (dot c).crtc.beam) (λ t.
        let count = ended.count in
        let l = later in
        (frame_takes_fewest_dots frames_end c).first 1 (omega arith) (omega arith) (subst (λ (x : CardState). IsFrameStart x.crtc.beam) (sym (dot_is_one c))
        ((first_dot_starts (dot c).crtc.beam).0 t)))

    further : IsDotsFurther h.raster c start n 1
    further = dots_go_on h.raster c start n h.has at 1 later

    frame_stays : (dot c).crtc.beam.frame ≡ c.crtc.beam.frame
    frame_stays = ap (λ (x : CardState). x.crtc.beam.frame) (sym (dot_is_one c)) ∙ further.frame

    keeps : dot c ≡ record c { crtc = record c.crtc { beam = (dot c).crtc.beam }; drawn = (dot c).drawn }
    keeps = subst (λ (x : CardState). x ≡ record c { crtc = record c.crtc { beam = x.crtc.beam }; drawn = x.drawn }) (dot_is_one c) further.keeps

    moved : (dot c).crtc.beam ≡ beam_at_dot_of_frame (character_width c) c.crtc.registers start c.crtc.beam.frame (suc n)
    unfolding dots dot after_dot beam_dots dots_of_frame
    moved =
        let w = character_width c in
        let r = c.crtc.registers in
        let e : n + 1 ≡ suc n = omega arith in
        let numbers : dots_of_frame (raster_of c) ≡ dots_of_frame h.raster = ap dots_of_frame h.has.numbers in
        beam_goes_on w r c.crtc.beam start c.crtc.beam.frame n 1 h.has.regular (wide _) (subst (λ k. n + 1 < k) (sym numbers) later) at.beam (omega arith)
        ∙ ap (beam_at_dot_of_frame w r start c.crtc.beam.frame) e

    at_next : BeamIsAtDotOfFrameFromAddress (dot c) start (suc n)
    unfolding dot after_dot
    at_next = moved ∙ ap (λ f. beam_at_dot_of_frame (character_width c) c.crtc.registers start f (suc n)) (sym frame_stays)

    follows_on : CardFollowsDrawing (dot c) d (onward b)
    follows_on = record {
      shows = ap (λ (x : CardState). shown x d) keeps ∙ shown_moved c d s (dot c).crtc.beam (dot c).drawn is.shows
          ∙ ap (λ f. Some (record s { frame = f })) (frame_stays ∙ sym (frame_shown c d s is.shows));
      within = omega arith;
      page = subst (λ v. (if v then s.page else g) < s.layout.pages) (sym (not_zero n)) is.page;
      at = subst (λ v. BeamIsAtDotOfFrameFromAddress (dot c) (start_address d (if v then s.page else g)) (suc n)) (sym (not_zero n)) at_next;
      lines = ap (λ v. lines_of_dots (if v then [] else (dot c).drawn)) away ∙ lines_are;
      bytes = ap (λ v. bytes_of_dots (if v then [] else (dot c).drawn)) away ∙ bytes_are
          ∙ sym (ap (λ v. if v then [] else picture_so_far b ++ colour_of_frame_dot s g n) (not_zero n));
    }

  -- ---- if the frame ends
  module _ (e : n + 1 ≡ total_dots_of_frame_in_mode s.mode) where
    ends_here : frame c ≡ dot c
    ends_here =
        let count = ended.count in
        let all = all_is c d s h in
        let one : card_dots_to_frame_end c ≡ 1 = omega arith in
        ap (λ k. dots k c) one ∙ dot_is_one c

    leaves : dot c ≡ record c { crtc = record c.crtc { beam = first_dot_of_frame ((c.crtc.beam.frame + 1) % 32) }; drawn = (dot c).drawn }
    leaves = subst (λ (x : CardState). x ≡ record c { crtc = record c.crtc { beam = first_dot_of_frame ((c.crtc.beam.frame + 1) % 32) }; drawn = x.drawn }) ends_here
        ended.leaves

    starts : IsFrameStart (dot c).crtc.beam
    starts = subst (λ (x : CardState). IsFrameStart x.crtc.beam) (sym leaves) (record { line = refl; character = refl; dot = refl })

    nothing : dots_of_frame_so_far (dot c) ≡ []
    nothing = ap (λ v. if v then [] else (dot c).drawn) ((first_dot_starts (dot c).crtc.beam).1 starts)

    follows_renewed : CardFollowsDrawing (dot c) d (renewed b)
    follows_renewed = record {
      shows = ap (λ (x : CardState). shown x d) leaves ∙ shown_moved c d s (first_dot_of_frame ((c.crtc.beam.frame + 1) % 32)) (dot c).drawn is.shows
          ∙ ap (λ f. Some (record s { frame = (f + 1) % 32 })) (sym (frame_shown c d s is.shows));
      within = omega (arith, is.within);
      page = h.page;
      at = starts;
      lines = ap lines_of_dots nothing ∙ sym (no_line (next_frame s));
      bytes = ap bytes_of_dots nothing ∙ no_bytes;
    }

  pub dot_taken : DotTaken c d b
  unfolding take_dot
  dot_taken = record {
    lines = lines_are;
    bytes = bytes_are;
    follows = ⊎_elim
        (λ (l : n + 1 < total_dots_of_frame_in_mode s.mode). subst (CardFollowsDrawing (dot c) d) (sym (taken_on b l)) (follows_on l))
        (λ (l : total_dots_of_frame_in_mode s.mode ≤ n + 1). let e : n + 1 ≡ total_dots_of_frame_in_mode s.mode = omega (arith, is.within) in
        subst (CardFollowsDrawing (dot c) d) (sym (taken_last b e)) (follows_renewed e))
        (cases_lt (n + 1) (total_dots_of_frame_in_mode s.mode));
  }

-- ---- any number of dots

pub dots_follow : (n : ℕ) (c : CardState) (d : BiosData) (b : Drawing) → IsCard c → CardFollowsDrawing c d b → CardFollowsDrawing (dots n c) d (take_dots n b)
unfolding dots take_dots
dots_follow zero c d b z is = is
dots_follow (suc n) c d b z is = dots_follow n (dot c) d (take_dot b) (dots_bounds 1 c z) (dot_taken c d b z is).follows

-- ---- the end of a frame

pub frame_follows : (c : CardState) (d : BiosData) (b : Drawing) → IsCard c → CardFollowsDrawing c d b → EndsFrame c d b
frame_follows c d b z is =
    let s = b.screen in
    let n = b.dot in
    let all = total_dots_of_frame_in_mode s.mode in
    let f = h c d b z is in
    let k = all - n - 1 in
    let within = is.within in
    let left : all - n ≡ suc k = omega arith in
    let on = dots_on k b (omega arith) in
    let c' = dots k c in
    let b' = take_dots k b in
    let last = dot_taken c' d b' (dots_bounds k c z) (dots_follow k c d b z is) in
    let total = (ended c d b z is).count in
    let numbers = all_is c d s f in
    let count : card_dots_to_frame_end c ≡ k + 1 = omega arith in
    let frame_is : frame c ≡ dot c' = ap (λ j. dots j c) count ∙ dots_split k 1 c ∙ dot_is_one c' in
    let taken_is : take_frame b ≡ take_dot b' = ap (λ j. take_dots j b) left ∙ taken_more k b in
    let whole : suc (n + k) ≡ all = omega arith in
    let lines = ap (λ (x : CardState). lines_of_dots x.drawn) frame_is ∙ last.lines
    ∙ ap (λ (x : Screen). lines_of_picture_dots_before x (suc b'.dot)) on.screen ∙ ap (λ j. lines_of_picture_dots_before s (suc j)) on.dot ∙ ap (lines_of_picture_dots_before s) whole ∙ all_lines c d s f in
    let w : 0 < picture_width s = subst (λ j. 0 < j) f.wide (mul-le 1 1 f.raster.columns f.raster.dots f.has.raster.some_columns f.has.raster.some_dots) in
    let v : 0 < picture_height s = subst (λ j. 0 < j) f.high f.has.raster.some_lines in
    record {
      size = equally_wide_rows_make_a_picture (picture_width s) (picture_height s) (frame c).drawn w v lines;
      bytes = ap (λ (x : CardState). bytes_of_dots x.drawn) frame_is ∙ last.bytes ∙ ap (λ (x : Drawing). x.picture) (sym taken_is);
      follows = subst (λ (x : CardState). CardFollowsDrawing x d (take_frame b)) (sym frame_is) (subst (CardFollowsDrawing (dot c') d) (sym taken_is) last.follows);
    }
