-- A whole line is its dots, one at a time.
use Rattle.std.proofs.Common.{◌≡◌, ℕ, zero, suc, ◌+◌, ◌-◌, ◌*◌, ◌/◌, ◌%◌, ◌<◌, ◌≤◌, ⊎_elim, refl, sym, ap, ◌∙◌, arith, Bool, true, false, List, [], ◌∷◌, ◌++◌}
use Rattle.std.proofs.Common.{length, replicate, take, drop, slice_index}
use Rattle.std.specs.Prelude.{if◌then◌else◌, ◌&&◌, nat_le, bit_and}
use Rattle.std.proofs.lemmas.Bool.{cases_lt, le-leb, lt-leb}
use Rattle.std.proofs.lemmas.Bool.Decides.{nat_tests}
use Rattle.std.proofs.lemmas.Nat.{div-add-mod', div_below, mod_below, mul-le}
use Rattle.std.proofs.lemmas.List.{append-nil, replicate-append-replicate, length-replicate, length-take, get_or-take, drop-drop}
use Rattle.std.proofs.Math.Nat.{le_refl}
use Rattle.vga_host.specs.Host.{HostState}
use Rattle.vga_host.specs.Sequencer.{character_width as host_width, is_screen_off}
use Rattle.vga_crtc.specs.Crtc.{CrtcState}
use Rattle.vga_crtc.specs.Status.{is_display}
use Rattle.vga_crtc.specs.Fields.{horizontal_display_end, vertical_display_end}
use Rattle.vga_attr.specs.Attr.{AttrState}
use Rattle.vga_dac.specs.Dac.{DacState}
use Rattle.vga_dots.specs.Colour.{dot_colour, colour_number}
use Rattle.vga_dots.specs.Display.{DisplayState}
use Rattle.vga_dots.specs.Line.{with_beam_at_dot_of_character, shown_characters, IsLineDrawn}
use Rattle.vga_crtc.specs.declared.beam.Beam.{Beam}
use Rattle.vga_crtc.specs.Beam.{characters}
use Rattle.vga_card.specs.Picture.{Dot}
use Rattle.vga_card.specs.Canvas.{dots_of_bytes}
use Rattle.vga_card.specs.Dots.{display_dot}
use Rattle.vga_card.specs.Line.{displayed_line_dots}
use Rattle.vga_card.specs.Frames.{concatenated_dots}

-- ---- lists of dots

pub collect_same : (f g : ℕ → List Dot) (n : ℕ) → ((i : ℕ) → i < n → f i ≡ g i) → concatenated_dots f n ≡ concatenated_dots g n
collect_same f g zero h = refl
collect_same f g (suc n) h = ap (λ x. x ++ f n) (collect_same f g n (λ i l. h i (omega arith))) ∙ ap (λ x. concatenated_dots g n ++ x) (h n (omega arith))

pub collect_none : (f : ℕ → List Dot) (m n : ℕ) → ((i : ℕ) → m ≤ i → i < m + n → f i ≡ []) → concatenated_dots f (m + n) ≡ concatenated_dots f m
collect_none f m zero h = let z : m + 0 ≡ m = omega arith in ap (concatenated_dots f) z
collect_none f m (suc n) h =
    let z : m + suc n ≡ suc (m + n) = omega arith in
    ap (concatenated_dots f) z ∙ ap (λ x. concatenated_dots f (m + n) ++ x) (h (m + n) (omega arith) (omega arith)) ∙ append-nil (concatenated_dots f (m + n))
    ∙ collect_none f m n (λ i lo hi. h i lo (omega arith))

dots_cut : (vs us bs : List ℕ) → dots_of_bytes (vs ++ us) bs ≡ dots_of_bytes vs bs ++ dots_of_bytes us (drop (3 * length vs) bs)
unfolding dots_of_bytes
dots_cut [] us bs = refl
dots_cut (v ∷ vs) us bs =
    let z : 3 + 3 * length vs ≡ 3 * suc (length vs) = omega arith in
    let here : Dot = record { line = v; colour = take 3 bs } in
    ap (λ x. here ∷ x) (dots_cut vs us (drop 3 bs))
    ∙ ap (λ x. here ∷ (dots_of_bytes vs (drop 3 bs) ++ dots_of_bytes us x)) (drop-drop (3 * length vs) 3 bs ∙ ap (λ n. drop n bs) z)

abbrev pub row_dot : ℕ → List ℕ → ℕ → List Dot
row_dot v bs i = record { line = v; colour = take 3 (drop (3 * i) bs) } ∷ []

pub collect_row : (v : ℕ) (bs : List ℕ) (n : ℕ) → concatenated_dots (row_dot v bs) n ≡ dots_of_bytes (replicate n v) bs
unfolding dots_of_bytes
collect_row v bs zero = refl
collect_row v bs (suc n) =
    let z : n + 1 ≡ suc n = omega arith in
    ap (λ x. x ++ row_dot v bs n) (collect_row v bs n)
    ∙ ap (λ m. dots_of_bytes (replicate n v) bs ++ (record { line = v; colour = take 3 (drop (3 * m) bs) }) ∷ []) (sym (length-replicate n v))
    ∙ sym (dots_cut (replicate n v) (v ∷ []) bs)
    ∙ ap (λ x. dots_of_bytes x bs) (replicate-append-replicate n 1 v ∙ ap (λ m. replicate m v) z)

three_at : (n : ℕ) (bs : List ℕ) → n + 3 ≤ length bs → take 3 (drop n bs) ≡ slice_index bs n ∷ slice_index bs (suc n) ∷ slice_index bs (suc (suc n)) ∷ []
three_at zero [] l = absurd (omega arith)
three_at zero (x ∷ []) l = absurd (omega arith)
three_at zero (x ∷ y ∷ []) l = absurd (omega arith)
three_at zero (x ∷ y ∷ z ∷ bs) l = refl
three_at (suc n) [] l = absurd (omega arith)
three_at (suc n) (x ∷ bs) l = three_at n bs (omega arith)

-- three bytes are these
pub three_are : (n : ℕ) (bs c : List ℕ) → n + 3 ≤ length bs → c ≡ slice_index c 0 ∷ slice_index c 1 ∷ slice_index c 2 ∷ []
    → ((j : ℕ) → j < 3 → slice_index bs (n + j) ≡ slice_index c j) → take 3 (drop n bs) ≡ c
three_are n bs c l three h =
    let z : n + 0 ≡ n = omega arith in
    let o : n + 1 ≡ suc n = omega arith in
    let t : n + 2 ≡ suc (suc n) = omega arith in
    three_at n bs l
    ∙ ap (λ q. q ∷ slice_index bs (suc n) ∷ slice_index bs (suc (suc n)) ∷ []) (ap (slice_index bs) (sym z) ∙ h 0 (omega arith))
    ∙ ap (λ q. slice_index c 0 ∷ q ∷ slice_index bs (suc (suc n)) ∷ []) (ap (slice_index bs) (sym o) ∙ h 1 (omega arith))
    ∙ ap (λ q. slice_index c 0 ∷ slice_index c 1 ∷ q ∷ []) (ap (slice_index bs) (sym t) ∙ h 2 (omega arith))
    ∙ sym three

-- ---- the dots of a displayed line

pub shown_dot : (d : DisplayState) (x k : ℕ) → x ≤ horizontal_display_end d.crtc.registers → d.crtc.beam.line ≤ vertical_display_end d.crtc.registers
    → display_dot d.host (with_beam_at_dot_of_character d.crtc x k) d.attr d.dac ≡ record { line = d.crtc.beam.line; colour = dot_colour d.host (with_beam_at_dot_of_character d.crtc x k) d.attr d.dac } ∷ []
unfolding display_dot
shown_dot d x k in_line in_frame =
    let dots : List Dot = record { line = d.crtc.beam.line; colour = dot_colour d.host (with_beam_at_dot_of_character d.crtc x k) d.attr d.dac } ∷ [] in
    ap (λ v. if v && nat_le d.crtc.beam.line (vertical_display_end d.crtc.registers) then dots
    else []) (le-leb x (horizontal_display_end d.crtc.registers) in_line)
    ∙ ap (λ v. if v then dots else []) (le-leb d.crtc.beam.line (vertical_display_end d.crtc.registers) in_frame)

pub hidden_dot : (d : DisplayState) (x k : ℕ) → horizontal_display_end d.crtc.registers < x → display_dot d.host (with_beam_at_dot_of_character d.crtc x k) d.attr d.dac ≡ []
unfolding display_dot
hidden_dot d x k past =
    let dots : List Dot = record { line = d.crtc.beam.line; colour = dot_colour d.host (with_beam_at_dot_of_character d.crtc x k) d.attr d.dac } ∷ [] in
    ap (λ v. if v && nat_le d.crtc.beam.line (vertical_display_end d.crtc.registers) then dots
    else []) (lt-leb x (horizontal_display_end d.crtc.registers) past)

and_false : (v : Bool) (dots : List Dot) → (if v && false then dots else []) ≡ []
and_false true dots = refl
and_false false dots = refl

pub hidden_line_dot : (d : DisplayState) (x k : ℕ) → vertical_display_end d.crtc.registers < d.crtc.beam.line →
    display_dot d.host (with_beam_at_dot_of_character d.crtc x k) d.attr d.dac ≡ []
unfolding display_dot
hidden_line_dot d x k past =
    let dots : List Dot = record { line = d.crtc.beam.line; colour = dot_colour d.host (with_beam_at_dot_of_character d.crtc x k) d.attr d.dac } ∷ [] in
    ap (λ v. if nat_le x (horizontal_display_end d.crtc.registers) && v then dots
    else []) (lt-leb d.crtc.beam.line (vertical_display_end d.crtc.registers) past)
    ∙ and_false (nat_le x (horizontal_display_end d.crtc.registers)) dots

three_of : (v : Bool) (x y z : ℕ) → (if v then 0 ∷ 0 ∷ 0 ∷ [] else x ∷ y ∷ z ∷ [])
    ≡ slice_index (if v then 0 ∷ 0 ∷ 0 ∷ [] else x ∷ y ∷ z ∷ []) 0 ∷ slice_index (if v then 0 ∷ 0 ∷ 0 ∷ [] else x ∷ y ∷ z ∷ []) 1 ∷ slice_index (if v
    then 0 ∷ 0 ∷ 0 ∷ [] else x ∷ y ∷ z ∷ []) 2 ∷ []
three_of true x y z = refl
three_of false x y z = refl

pub three_bytes : (h : HostState) (c : CrtcState) (a : AttrState) (d : DacState) → dot_colour h c a d
    ≡ slice_index (dot_colour h c a d) 0 ∷ slice_index (dot_colour h c a d) 1 ∷ slice_index (dot_colour h c a d) 2 ∷ []
unfolding dot_colour
three_bytes h c a d =
    let n = bit_and (colour_number h c a) d.mask in
    three_of (is_screen_off h) (slice_index d.reds n) (slice_index d.greens n) (slice_index d.blues n)

module _ (d : DisplayState) (cw : ℕ) (wide : cw ≡ host_width d.host) (some : 0 < cw) where
  abbrev place_dot : ℕ → List Dot
  place_dot i = display_dot d.host (with_beam_at_dot_of_character d.crtc (i / cw) (i % cw)) d.attr d.dac

  by_width : displayed_line_dots d ≡ concatenated_dots place_dot (characters d.crtc.registers * cw)
  unfolding displayed_line_dots
  by_width = ap (λ w. concatenated_dots (λ i. display_dot d.host (with_beam_at_dot_of_character d.crtc (i / w) (i % w)) d.attr d.dac) (characters d.crtc.registers * w)) (sym wide)

  none : (n : ℕ) → ((i : ℕ) → i < n → place_dot i ≡ []) → concatenated_dots place_dot n ≡ []
  none n f = let z : 0 + n ≡ n = omega arith in ap (concatenated_dots place_dot) (sym z) ∙ collect_none place_dot 0 n (λ i lo hi. f i (omega arith))

  -- a line that is not displayed has no display dot
  pub hidden_line : vertical_display_end d.crtc.registers < d.crtc.beam.line → displayed_line_dots d ≡ []
  hidden_line past = by_width ∙ none (characters d.crtc.registers * cw) (λ i l. hidden_line_dot d (i / cw) (i % cw) past)

  -- the display dots of a line are those of its displayed characters
  pub shown_places : displayed_line_dots d ≡ concatenated_dots place_dot (shown_characters d.crtc.registers * cw)
  shown_places =
      let r = d.crtc.registers in
      let n = shown_characters r in
      let m = n * cw in
      let fits : n ≤ characters r = omega arith in
      let whole : m + (characters r * cw - m) ≡ characters r * cw = omega (arith, mul-le n cw (characters r) cw fits (le_refl cw)) in
      let at : (i : ℕ) → i / cw * cw + i % cw ≡ i = λ i. div-add-mod' i cw in
      by_width ∙ ap (concatenated_dots place_dot) (sym whole)
      ∙ collect_none place_dot m (characters r * cw - m) (λ i lo hi.
      let below : i < characters r * cw = omega arith in
      let x = div_below i cw (characters r) some below in
      ⊎_elim
      (λ (l : i / cw < n). absurd (omega (arith, lo, at i, mod_below i cw some, mul-le (i / cw + 1) cw n cw (omega arith) (le_refl cw))))
      (λ (l : n ≤ i / cw). hidden_dot d (i / cw) (i % cw) (omega (arith, x, l)))
      (cases_lt (i / cw) n))

  -- a line that is displayed has those that are drawn
  pub shown_line : (row old : List ℕ) → d.crtc.beam.line ≤ vertical_display_end d.crtc.registers →
      IsLineDrawn cw (shown_characters d.crtc.registers) d old row → 3 * (shown_characters d.crtc.registers * cw) ≤ length row
      → displayed_line_dots d ≡ dots_of_bytes (replicate (shown_characters d.crtc.registers * cw) d.crtc.beam.line) (take (3 * (shown_characters d.crtc.registers * cw)) row)
  shown_line row old in_frame drawn room =
      let n = shown_characters d.crtc.registers in
      let m = n * cw in
      let bytes = take (3 * m) row in
      let long : length bytes ≡ 3 * m = omega (arith, length-take (3 * m) row) in
      let at : (i : ℕ) → i / cw * cw + i % cw ≡ i = λ i. div-add-mod' i cw in
      shown_places
      ∙ collect_same place_dot (row_dot d.crtc.beam.line bytes) m (λ i l.
      let x = div_below i cw n some l in
      let k = mod_below i cw some in
      let colour = dot_colour d.host (with_beam_at_dot_of_character d.crtc (i / cw) (i % cw)) d.attr d.dac in
      shown_dot d (i / cw) (i % cw) (omega (arith, x)) in_frame
      ∙ ap (λ (q : List ℕ). (record { line = d.crtc.beam.line; colour = q }) ∷ [])
      (sym (three_are (3 * i) bytes colour (omega (arith, long)) (three_bytes d.host (with_beam_at_dot_of_character d.crtc (i / cw) (i % cw)) d.attr d.dac)
      (λ j lj. get_or-take (3 * m) row (3 * i + j) 0 (omega arith) ∙ ap (λ q. slice_index row (3 * q + j)) (sym (at i))
      ∙ drawn.inside (i / cw) (i % cw) j x k lj))))
      ∙ collect_row d.crtc.beam.line bytes m

-- so its dots are those of n dots of line v in that row
pub appended_line : (d : DisplayState) (cw n v : ℕ) (row old : List ℕ) → cw ≡ host_width d.host → 0 < cw →
    d.crtc.beam.line ≤ vertical_display_end d.crtc.registers
    → n ≡ shown_characters d.crtc.registers * cw → v ≡ d.crtc.beam.line → IsLineDrawn cw (shown_characters d.crtc.registers) d old row →
    3 * (shown_characters d.crtc.registers * cw) ≤ length row
    → dots_of_bytes (replicate n v) (take (3 * (shown_characters d.crtc.registers * cw)) row) ≡ displayed_line_dots d
appended_line d cw n v row old wide some in_frame count line drawn long =
    let m = shown_characters d.crtc.registers * cw in
    ap (λ (k : ℕ). dots_of_bytes (replicate k v) (take (3 * m) row)) count ∙ ap (λ (k : ℕ). dots_of_bytes (replicate m k) (take (3 * m) row)) line
    ∙ sym (shown_line d cw wide some row old in_frame drawn long)

pub is_shown : (r : List ℕ) (b : Beam) → is_display r b ≡ true → b.line ≤ vertical_display_end r
is_shown r b h = grind (arith, nat_tests)

pub is_hidden : (r : List ℕ) (b : Beam) → b.character ≡ 0 → is_display r b ≡ false → vertical_display_end r < b.line
is_hidden r b first h = grind (arith, nat_tests)
