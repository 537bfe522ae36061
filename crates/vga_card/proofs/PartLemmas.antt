-- The adapter after some dots of a line.
use Rattle.std.proofs.Common.{◌≡◌, ℕ, ◌+◌, ◌-◌, ◌*◌, ◌/◌, ◌%◌, ◌<◌, ◌≤◌, ◌⊎◌, ⊎_elim, inl, inr, refl, sym, ap, ◌∙◌, arith, Bool, true, false, List, []}
use Rattle.std.proofs.Common.{◌∷◌, ◌++◌, length, replicate, take, drop, take-add, slice_index}
use Rattle.std.specs.Prelude.{if◌then◌else◌, ◌==◌, ◌&&◌, nat_le, min}
use Rattle.std.proofs.lemmas.Bool.{cases_lt, le-leb}
use Rattle.std.proofs.lemmas.Bool.Decides.{nat_tests}
use Rattle.std.proofs.lemmas.Nat.{div-add-mod', div_below, mod_below, mul-le}
use Rattle.std.proofs.lemmas.List.{length-take, get_or-take, take-take, length-drop}
use Rattle.vga_host.specs.Host.{HostState}
use Rattle.vga_host.specs.Sequencer.{character_width as host_width, is_eight_dots}
use Rattle.vga_crtc.specs.declared.beam.Beam.{Beam}
use Rattle.vga_crtc.specs.Crtc.{CrtcState}
use Rattle.vga_crtc.specs.Status.{is_display}
use Rattle.vga_crtc.specs.Fields.{horizontal_display_end, vertical_display_end}
use Rattle.vga_crtc.specs.Beam.{is_first_dot_of_frame, characters, with_frame_start_taken, crtc_with_start_taken, after_dots, dots as beam_dots}
use Rattle.vga_crtc.specs.Raster.{dots_to_line_end, beam_at_dot_of_line, dots_per_line as line_length, dot_number_in_line, IsWithinItsLine, DotsToLineEndAreFewest}
use Rattle.vga_dots.specs.Colour.{dot_colour}
use Rattle.vga_dots.specs.Display.{DisplayState}
use Rattle.vga_dots.specs.Line.{with_beam_at_dot_of_line, shown_characters, AreNextDotsDrawn}
use Rattle.vga_card.specs.Picture.{Dot, most_dots_of_a_line}
use Rattle.vga_card.specs.Canvas.{CanvasState, dots_of_bytes, width_with_dots}
use Rattle.vga_card.specs.Card.{CardState}
use Rattle.vga_card.specs.Dots.{character_width, dots_of_frame_so_far, display_dot, dots}
use Rattle.vga_card.specs.Frames.{concatenated_dots, display_dot_after_dots}
use Rattle.vga_card.specs.Line.{display_with_start_taken, display_dots_among_next_dots, card_dots_to_line_end, AreNextDotsAppended}
use Rattle.vga_card.specs.Valid.{count_unless_frame_start, IsLineDrawnToBeam}
use Rattle.vga_card.proofs.FrameLemmas.{FramesEnd, dots_are_places, dots_change_only_beam_and_picture}
use Rattle.vga_card.proofs.DotLemmas.{dots_split}
use Rattle.vga_card.proofs.PlaceLemmas.{StartStays, decided}
use Rattle.vga_card.proofs.RowLemmas.{collect_same, collect_none, collect_row, row_dot, three_are, three_bytes, shown_dot, hidden_dot, hidden_line_dot}
use Rattle.vga_card.proofs.LineLemmas.{DotsBegin, LineMoves, line_moves, few_dots}

-- what the CRT controller promises of the dots of a line: where they are, and how many are left
abbrev pub BeamGoes : Type 0
BeamGoes = (cw : ℕ) (r : List ℕ) (b : Beam) (n : ℕ) → IsWithinItsLine cw r b → dot_number_in_line cw b + n < line_length cw r →
    with_frame_start_taken r (beam_dots cw r n b) ≡ beam_at_dot_of_line cw (with_frame_start_taken r b) (dot_number_in_line cw b + n)

abbrev pub LineWhole : Type 0
LineWhole = (cw : ℕ) (r : List ℕ) (b : Beam) → IsWithinItsLine cw r b → dot_number_in_line cw b + dots_to_line_end cw r b ≡ line_length cw r

abbrev pub LinesEnd : Type 0
LinesEnd = (cw : ℕ) (r : List ℕ) (b : Beam) → 0 < cw → DotsToLineEndAreFewest cw r b

-- ---- dots of a line

module _ (d : DisplayState) (cw : ℕ) (wide : cw ≡ host_width d.host) (some : 0 < cw) where
  abbrev number : ℕ
  number = dot_number_in_line cw d.crtc.beam

  abbrev part_dot : ℕ → List Dot
  part_dot i = display_dot d.host (with_beam_at_dot_of_line d.crtc cw (number + i)) d.attr d.dac

  by_width : (n : ℕ) → display_dots_among_next_dots n d ≡ concatenated_dots part_dot n
  unfolding display_dots_among_next_dots
  by_width n = ap (λ w. concatenated_dots (λ i. display_dot d.host (with_beam_at_dot_of_line d.crtc w (dot_number_in_line w d.crtc.beam + i)) d.attr d.dac) n) (sym wide)

  -- dots that are displayed are those that are drawn
  pub appended_part : (n v : ℕ) (row old : List ℕ) → d.crtc.beam.line ≤ vertical_display_end d.crtc.registers →
      number + n ≤ shown_characters d.crtc.registers * cw → v ≡ d.crtc.beam.line
      → AreNextDotsDrawn cw n d old row → 3 * n ≤ length row → dots_of_bytes (replicate n v) (take (3 * n) row) ≡ display_dots_among_next_dots n d
  appended_part n v row old in_frame fits line drawn room =
      let r = d.crtc.registers in
      let bytes = take (3 * n) row in
      let long : length bytes ≡ 3 * n = omega (arith, length-take (3 * n) row) in
      ap (λ (k : ℕ). dots_of_bytes (replicate n k) bytes) line ∙ sym (by_width n
      ∙ collect_same part_dot (row_dot d.crtc.beam.line bytes) n (λ i l.
      let q = number + i in
      let x = div_below q cw (shown_characters r) some (omega (arith, fits)) in
      let colour = dot_colour d.host (with_beam_at_dot_of_line d.crtc cw q) d.attr d.dac in
      shown_dot d (q / cw) (q % cw) (omega (arith, x)) in_frame
      ∙ ap (λ (q : List ℕ). (record { line = d.crtc.beam.line; colour = q }) ∷ [])
      (sym (three_are (3 * i) bytes colour (omega (arith, long)) (three_bytes d.host (with_beam_at_dot_of_line d.crtc cw q) d.attr d.dac)
      (λ j lj.
      let z : 3 * i + j ≡ 3 * (0 + i) + j = omega arith in
      get_or-take (3 * n) row (3 * i + j) 0 (omega arith) ∙ ap (slice_index row) z ∙ drawn.inside i j l lj))))
      ∙ collect_row d.crtc.beam.line bytes n)

  -- those past the last displayed character add nothing
  pub part_cut : (m n : ℕ) → m ≡ min n (shown_characters d.crtc.registers * cw - number) → number + n ≤ characters d.crtc.registers * cw →
      display_dots_among_next_dots n d ≡ display_dots_among_next_dots m d
  part_cut m n e within =
      let whole : m + (n - m) ≡ n = omega (arith, e) in
      by_width n ∙ ap (concatenated_dots part_dot) (sym whole) ∙ collect_none part_dot m (n - m) (λ i lo hi.
      let q = number + i in
      let past : shown_characters d.crtc.registers * cw ≤ q = omega (arith, e, lo, hi) in
      let x = div_below q cw (characters d.crtc.registers) some (omega (arith, within, lo, hi, e)) in
      ⊎_elim
      (λ (l : q / cw < shown_characters d.crtc.registers). absurd (omega (
        arith,
        past,
        div-add-mod' q cw,
        mod_below q cw some,
        mul-le (q / cw + 1) cw (shown_characters d.crtc.registers) cw (omega (arith, l)) (omega arith),
      )))
      (λ (l : shown_characters d.crtc.registers ≤ q / cw). hidden_dot d (q / cw) (q % cw) (omega (arith, x, l)))
      (cases_lt (q / cw) (shown_characters d.crtc.registers)))
      ∙ sym (by_width m)

  none : (n : ℕ) → ((i : ℕ) → i < n → part_dot i ≡ []) → display_dots_among_next_dots n d ≡ []
  none n f = let z : 0 + n ≡ n = omega arith in by_width n ∙ ap (concatenated_dots part_dot) (sym z) ∙ collect_none part_dot 0 n (λ i lo hi. f i (omega arith))

  -- nor do those where nothing is displayed
  pub hidden_part : (n : ℕ) → (horizontal_display_end d.crtc.registers < d.crtc.beam.character) ⊎ (vertical_display_end d.crtc.registers < d.crtc.beam.line) →
      display_dots_among_next_dots n d ≡ []
  hidden_part n past = none n (λ i l.
      let q = number + i in
      ⊎_elim
      (λ (g : horizontal_display_end d.crtc.registers < d.crtc.beam.character).
      hidden_dot d (q / cw) (q % cw) (⊎_elim
      (λ (w : q / cw < d.crtc.beam.character). absurd (omega (
        arith,
        div-add-mod' q cw,
        mod_below q cw some,
        mul-le (q / cw + 1) cw d.crtc.beam.character cw (omega (arith, w)) (omega arith),
      )))
      (λ (w : d.crtc.beam.character ≤ q / cw). omega (arith, g, w))
      (cases_lt (q / cw) d.crtc.beam.character)))
      (λ (g : vertical_display_end d.crtc.registers < d.crtc.beam.line). hidden_line_dot d (q / cw) (q % cw) g)
      past)

-- ---- what is drawn before the beam

abbrev chosen_width : Bool → ℕ
chosen_width v = if v then 8 else 9

width_cases : (v : Bool) → (chosen_width v ≡ 8) ⊎ (chosen_width v ≡ 9)
width_cases true = inl refl
width_cases false = inr refl

-- a character has eight dots or nine
pub widths : (h : HostState) → (host_width h ≡ 8) ⊎ (host_width h ≡ 9)
widths h = width_cases (is_eight_dots h)

-- the dots that are displayed fit the widest line
pub part_fits : (cw x k n shown : ℕ) → (cw ≡ 8) ⊎ (cw ≡ 9) → x < 256 → shown ≤ 256 → x * cw + k + n ≤ shown * cw → 9 * x + k + n ≤ 2304
part_fits cw x k n shown which few most l =
    ⊎_elim
    (λ (e : cw ≡ 8). omega (arith, few, most, l, ap (λ w. x * w) e, ap (λ w. shown * w) e))
    (λ (e : cw ≡ 9). omega (arith, few, most, l, ap (λ w. x * w) e, ap (λ w. shown * w) e))
    which

width_if : (b : Beam) (v : Bool) (width count : ℕ) → (v ≡ true → width + count ≤ 9 * b.character + b.dot + count) →
    (if v then width + count else count) ≤ 9 * b.character + b.dot + count
width_if b true width count h = h refl
width_if b false width count h = omega arith

same_line : (x y : ℕ) → (x == y) ≡ true → x ≡ y
same_line x y e = grind (arith, nat_tests)

pub drawn_part : (b : Beam) (old new : CanvasState) (n count : ℕ) → IsLineDrawnToBeam b 0 old.line old.width → count ≤ n → 9 * b.character + b.dot + count ≤ 2304 →
    new.line ≡ b.line → new.width ≡ width_with_dots old b.line count → IsLineDrawnToBeam b n new.line new.width
drawn_part b old new n count is few fits line width =
    let most = width_if b (b.line == old.line) old.width count (λ e. omega (arith, is.few (sym (same_line b.line old.line e)))) in
    record {
      below = omega (arith, line);
      few = λ e. omega (arith, width, most, few, fits);
    }

pub drawn_none : (b : Beam) (line width n : ℕ) → IsLineDrawnToBeam b 0 line width → IsLineDrawnToBeam b n line width
drawn_none b line width n is = record { below = is.below; few = λ e. omega (arith, is.few e) }

-- where 9 dots are counted for a character, those of a line that are passed are at least as many
passed : (cw x k n y t : ℕ) → cw < 10 → x ≤ y → x * cw + k + n ≡ y * cw + t → 9 * x + k + n ≤ 9 * y + t
passed cw x k n y t few le e =
    let more : x + (y - x) ≡ y = omega (arith, le) in
    let wide : (x + (y - x)) * cw ≡ y * cw = ap (λ i. i * cw) more in
    let bound = mul-le (y - x) cw (y - x) 9 (omega arith) (omega (arith, few)) in
    omega (arith, e, wide, bound, more)

module _ (stays : StartStays) (begin : DotsBegin) (goes : BeamGoes) (whole : LineWhole) (ends : LinesEnd) (leads : LineMoves) where
  -- the beam has passed the dots that are drawn
  pub part_moves : (cw n : ℕ) (old new : CrtcState) (line width : ℕ) → (cw ≡ 8) ⊎ (cw ≡ 9) → IsWithinItsLine cw old.registers old.beam →
      n ≤ dots_to_line_end cw old.registers old.beam → new ≡ after_dots old cw n
      → IsLineDrawnToBeam old.beam n line width → IsLineDrawnToBeam new.beam 0 (count_unless_frame_start new.beam line) (count_unless_frame_start new.beam width)
  unfolding after_dots
  part_moves cw n old new line width which inside few by_dots is =
      let r = old.registers in
      let b : Beam = old.beam in
      let m : Beam = new.beam in
      let narrow : cw < 10 = ⊎_elim (λ (e : cw ≡ 8). omega (arith, e)) (λ (e : cw ≡ 9). omega (arith, e)) which in
      let some : 0 < cw = ⊎_elim (λ (e : cw ≡ 8). omega (arith, e)) (λ (e : cw ≡ 9). omega (arith, e)) which in
      let at : m ≡ beam_dots cw r n b = ap (λ (x : CrtcState). x.beam) by_dots in
      let all = whole cw r b inside in
      let q = dot_number_in_line cw b + n in
      ⊎_elim
      (λ (l : q < line_length cw r).
      let there : with_frame_start_taken r m ≡ beam_at_dot_of_line cw (with_frame_start_taken r b) q = ap (with_frame_start_taken r) at ∙ goes cw r b n inside l in
      let before = stays r b in
      let after = stays r m in
      let line_at : m.line ≡ b.line = sym after.line ∙ ap (λ (x : Beam). x.line) there ∙ before.line in
      let character_at : m.character ≡ q / cw = sym after.character ∙ ap (λ (x : Beam). x.character) there in
      let dot_colour_at : m.dot ≡ q % cw = sym after.dot ∙ ap (λ (x : Beam). x.dot) there in
      let on : b.character ≤ q / cw = ⊎_elim
      (λ (w : q / cw < b.character). absurd (omega (
        arith,
        div-add-mod' q cw,
        mod_below q cw some,
        mul-le (q / cw + 1) cw b.character cw (omega (arith, w)) (omega arith),
      )))
      (λ (w : b.character ≤ q / cw). w)
      (cases_lt (q / cw) b.character) in
      let far = passed cw b.character b.dot n (q / cw) (q % cw) narrow on (sym (div-add-mod' q cw)) in
      decided (is_first_dot_of_frame m) m line width (λ away. record {
        below = omega (arith, is.below, line_at);
        few = λ e. omega (arith, is.few (e ∙ line_at), far, character_at, dot_colour_at);
      }))
      (λ (g : line_length cw r ≤ q).
      let count : n ≡ dots_to_line_end cw r b = omega (arith, all, few, g) in
      line_moves stays leads cw old new line width (record { by_dots = by_dots ∙ ap (after_dots old cw) count; ends = ends cw r b some }) is.below)
      (cases_lt q (line_length cw r))

module _ (stays : StartStays) (begin : DotsBegin) (goes : BeamGoes) (whole : LineWhole) (frames : FramesEnd) where
  -- the display dots of a part, one place after another
  part_places : (n : ℕ) (c : CardState) → IsWithinItsLine (character_width c) c.crtc.registers c.crtc.beam → n ≤ card_dots_to_line_end c →
      concatenated_dots (display_dot_after_dots c) n ≡ display_dots_among_next_dots n (display_with_start_taken c)
  unfolding display_dots_among_next_dots crtc_with_start_taken after_dots
  part_places n c inside few =
      let w = character_width c in
      let r = c.crtc.registers in
      let b = c.crtc.beam in
      let place = stays r b in
      let same : dot_number_in_line w (with_frame_start_taken r b) ≡ dot_number_in_line w b = ap (λ x. x * w + (with_frame_start_taken r b).dot) place.character ∙ ap (λ k. b.character * w + k) place.dot in
      let all = whole w r b inside in
      collect_same (display_dot_after_dots c) (λ i. display_dot c.host (with_beam_at_dot_of_line (crtc_with_start_taken c.crtc) w (dot_number_in_line w (with_frame_start_taken r b) + i)) c.attr c.dac) n
      (λ i l. ap (λ (x : Beam). display_dot c.host (record c.crtc { beam = x }) c.attr c.dac) (goes w r b i inside (omega (arith, all, few)))
      ∙ ap (λ q. display_dot c.host (with_beam_at_dot_of_line (crtc_with_start_taken c.crtc) w (q + i)) c.attr c.dac) (sym same))

  same_beam : (cw n : ℕ) (c new : CrtcState) → 0 < n → new ≡ after_dots (crtc_with_start_taken c) cw n → new ≡ after_dots c cw n
  unfolding crtc_with_start_taken after_dots
  same_beam cw n c new some e = e ∙ ap (λ (b : Beam). record c { beam = b }) (sym (begin cw c.registers n c.beam some))

  -- a part of a line, from the parts that it changes
  pub part_is : (n : ℕ) (c : CardState) (crtc : CrtcState) (drawn : List Dot) → 0 < n → IsWithinItsLine (character_width c) c.crtc.registers c.crtc.beam →
      n ≤ card_dots_to_line_end c → crtc ≡ after_dots (crtc_with_start_taken c.crtc) (character_width c) n
      → drawn ≡ dots_of_frame_so_far c ++ display_dots_among_next_dots n (display_with_start_taken c) → record c { crtc = crtc; drawn = drawn } ≡ dots n c
  part_is n c crtc drawn some inside few moves draws =
      ap (λ (x : CrtcState). record c { crtc = x; drawn = drawn }) (same_beam (character_width c) n c.crtc crtc some moves)
      ∙ ap (λ (x : List Dot). record c { crtc = after_dots c.crtc (character_width c) n; drawn = x })
      (draws ∙ ap (λ x. dots_of_frame_so_far c ++ x) (sym (part_places n c inside few)) ∙ sym (dots_are_places frames c n some (omega (arith, few, (few_dots c).1))))
      ∙ sym (dots_change_only_beam_and_picture n c)

pub inside_started : StartStays → (cw : ℕ) (c : CrtcState) → IsWithinItsLine cw c.registers c.beam → IsWithinItsLine cw (crtc_with_start_taken c).registers (crtc_with_start_taken c).beam
unfolding crtc_with_start_taken
inside_started stays cw c inside =
    let place = stays c.registers c.beam in
    record { character = omega (arith, inside.character, place.character); dot = omega (arith, inside.dot, place.dot) }

pub few_started : StartStays → (cw n : ℕ) (c : CrtcState) → n ≤ dots_to_line_end cw c.registers c.beam →
    n ≤ dots_to_line_end cw (crtc_with_start_taken c).registers (crtc_with_start_taken c).beam
unfolding crtc_with_start_taken dots_to_line_end
few_started stays cw n c few =
    let place = stays c.registers c.beam in
    let e = ap (λ x. (characters c.registers - (x + 1)) * cw) place.character in
    omega (arith, few, e, place.dot)

-- a part that was drawn after the bytes that a longer buffer has in use
pub part_appended : (cw n : ℕ) (d : DisplayState) (old mid new : List ℕ) (used : ℕ) → used ≤ length old
    → take (length old) mid ≡ old → used + 3 * n ≤ length new → take used new ≡ take used mid → AreNextDotsDrawn cw n d (drop used mid) (drop used new)
    → AreNextDotsAppended cw n d (take used old) (take (used + 3 * n) new)
part_appended cw n d old mid new used within longer room prefix drawn =
    let kept : take used new ≡ take used old = prefix ∙ sym (take-take used (length old) mid within) ∙ ap (take used) longer in
    record {
      blank = drop used mid;
      row = drop used new;
      long = omega (arith, length-drop used new, room);
      whole = take-add used (3 * n) new ∙ ap (λ (x : List ℕ). x ++ take (3 * n) (drop used new)) kept;
      drawn = drawn;
    }

-- ---- what is displayed

pub is_shown_at : (r : List ℕ) (b : Beam) → is_display r b ≡ true → b.character ≤ horizontal_display_end r
is_shown_at r b h = grind (arith, nat_tests)

both_shown : (r : List ℕ) (b : Beam) → b.character ≤ horizontal_display_end r → b.line ≤ vertical_display_end r → is_display r b ≡ false → ⊥
both_shown r b g k h =
    let shown : is_display r b ≡ true = ap (λ v. v && nat_le b.line (vertical_display_end r)) (le-leb b.character (horizontal_display_end r) g)
    ∙ le-leb b.line (vertical_display_end r) k in
    absurd (cc)

pub is_hidden_by : (r : List ℕ) (b : Beam) → is_display r b ≡ false → (horizontal_display_end r < b.character) ⊎ (vertical_display_end r < b.line)
is_hidden_by r b h = ⊎_elim
    (λ (l : horizontal_display_end r < b.character). inl l)
    (λ (g : b.character ≤ horizontal_display_end r). ⊎_elim
    (λ (l : vertical_display_end r < b.line). inr l)
    (λ (k : b.line ≤ vertical_display_end r). absurd (both_shown r b g k h))
    (cases_lt (vertical_display_end r) b.line))
    (cases_lt (horizontal_display_end r) b.character)

-- the dots that are displayed fit the line
pub count_fits : (h : HostState) (c : CrtcState) (n count : ℕ) → count ≡ min n (shown_characters c.registers * host_width h
    - dot_number_in_line (host_width h) c.beam) → IsWithinItsLine (host_width h) c.registers c.beam
    → c.beam.character ≤ horizontal_display_end c.registers → c.beam.character < 256 → shown_characters c.registers ≤ 256 →
    9 * c.beam.character + c.beam.dot + count ≤ 2304
count_fits h c n count e inside shown few most =
    let w = host_width h in
    let all = shown_characters c.registers in
    let before : c.beam.character + 1 ≤ all = omega (arith, shown, inside.character) in
    let room = mul-le (c.beam.character + 1) w all w before (omega arith) in
    part_fits w c.beam.character c.beam.dot count all (widths h) few most (omega (arith, e, room, inside.dot))

pub room_for_part : (b : Beam) (line width count : ℕ) → IsLineDrawnToBeam b 0 line width → 9 * b.character + b.dot + count ≤ 2304 → b.line ≡ line →
    width + count ≤ most_dots_of_a_line
room_for_part b line width count is fits same = omega (arith, is.few (sym same), fits)

-- ---- the dots that are left

pub part_went : (left n : ℕ) (s new r : CardState) → n ≤ left → new ≡ dots n s → dots left s ≡ r → dots (left - n) new ≡ r
part_went left n s new r l e h =
    let z : n + (left - n) ≡ left = omega (arith, l) in
    ap (dots (left - n)) e ∙ sym (dots_split n (left - n) s) ∙ ap (λ i. dots i s) z ∙ h
