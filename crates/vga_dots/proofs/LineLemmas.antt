-- The colours of a line's dots, with its panning and without.
use Rattle.std.proofs.Common.{◌≡◌, ℕ, ◌+◌, ◌-◌, ◌*◌, ◌/◌, ◌%◌, ◌<◌, ◌≤◌, inr, ⊎_elim, refl, sym, ap, ◌∙◌, arith, Bool, true, false, List, [], ◌∷◌, slice_index}
use Rattle.std.specs.Prelude.{nat_lt, not, if◌then◌else◌}
use Rattle.std.proofs.lemmas.Bool.{cases_lt, lt-ltb, le-ltb}
use Rattle.std.proofs.lemmas.Nat.{row_fits, div-add-mod', div_below, mod_below, div-mul-add, mod-mul-add}
use Rattle.vga_host.specs.Host.{HostState}
use Rattle.vga_host.specs.Sequencer.{character_width, is_eight_dots, is_screen_off}
use Rattle.vga_host.specs.Graphics.{is_graphics, is_256_colours}
use Rattle.vga_crtc.specs.Raster.{dot_number_in_line}
use Rattle.vga_attr.specs.Attr.{AttrState}
use Rattle.vga_attr.specs.Fields.{is_palette_shown, overscan}
use Rattle.vga_attr.specs.Colour.{colour_index}
use Rattle.vga_dac.specs.Dac.{DacState}
use Rattle.vga_dots.specs.declared.source_dot.SourceDot.{SourceDot}
use Rattle.vga_dots.specs.SourceDot.{panning_shift, counter_of_character, source_dot_of_number, source_dot}
use Rattle.vga_dots.specs.Text.{text_nibble, is_foreground, is_underlined, is_blinked_away, is_cursor_at}
use Rattle.vga_dots.specs.Graphics.{planar_nibble, packed_byte}
use Rattle.vga_dots.specs.Colour.{dot_colour, colour_number, nibble}
use Rattle.vga_dots.specs.Row.{bytes_of_dot, AreDotsPut, AreCharactersPut}
use Rattle.vga_dots.specs.Display.{DisplayState}
use Rattle.vga_dots.specs.Line.{with_beam_at_dot_of_character, masked_colour, colour_by_palette, dot_of_counter, colour_of_source_dot, unpanned_colour, IsLineDrawn, AreNextDotsDrawn}
use Rattle.vga_dots.proofs.RowLemmas.{dot_byte}

-- a choice of numbers is one of colours
distribute : (off hidden packed graphics : Bool) (a : AttrState) (d : DacState) (n1 n2 n3 n4 : ℕ)
    → (if off then 0 ∷ 0 ∷ 0 ∷ [] else masked_colour d (if hidden then n1 else if packed then n2 else colour_index a (if graphics then n3 else n4)))
    ≡ (if off then 0 ∷ 0 ∷ 0 ∷ [] else if hidden then masked_colour d n1 else if packed then masked_colour d n2 else if graphics then colour_by_palette a d n3 else colour_by_palette a d n4)
unfolding colour_by_palette
distribute true p m g a d n1 n2 n3 n4 = refl
distribute false true m g a d n1 n2 n3 n4 = refl
distribute false false true g a d n1 n2 n3 n4 = refl
distribute false false false true a d n1 n2 n3 n4 = refl
distribute false false false false a d n1 n2 n3 n4 = refl

-- the colour of a dot of the line, by where it comes from
line_source : (d : DisplayState) (x k : ℕ) → dot_colour d.host (with_beam_at_dot_of_character d.crtc x k) d.attr d.dac
    ≡ colour_of_source_dot d (source_dot_of_number (with_beam_at_dot_of_character d.crtc x k) (character_width d.host) (k + panning_shift d.host d.crtc d.attr))
unfolding dot_colour colour_number nibble source_dot panning_shift colour_of_source_dot text_nibble is_foreground is_underlined is_blinked_away is_cursor_at
    planar_nibble
    packed_byte
line_source d x k =
    let s : SourceDot = source_dot_of_number (with_beam_at_dot_of_character d.crtc x k) (character_width d.host) (k + panning_shift d.host d.crtc d.attr) in
    distribute (is_screen_off d.host) (not (is_palette_shown d.attr)) (is_256_colours d.host) (is_graphics d.host) d.attr d.dac (overscan d.attr)
    (packed_byte d.host d.crtc s) (planar_nibble d.host d.crtc s) (text_nibble d.host d.crtc d.attr s)

-- a place has one character and one dot
same_place : (cw x k y t : ℕ) → k < cw → t < cw → x * cw + k ≡ y * cw + t → (x ≡ y) × (k ≡ t)
same_place cw x k y t lk lt e =
    (sym (div-mul-add x cw k lk) ∙ ap (λ i. i / cw) e ∙ div-mul-add y cw t lt, sym (mod-mul-add x cw k lk) ∙ ap (λ i. i % cw) e ∙ mod-mul-add y cw t lt)

-- the characters from the first on are those of the line
pub from_first : (cw n : ℕ) (f : ℕ → ℕ → List ℕ) (row0 row1 : List ℕ) → AreCharactersPut cw n (λ x. f (0 + x)) row0 row1 → AreCharactersPut cw n f row0 row1
from_first cw n f row0 row1 put = record {
  inside = λ x i j lx li lj. let z : 0 + x ≡ x = omega arith in put.inside x i j lx li lj ∙ ap (λ q. slice_index (f q i) j) z;
  outside = put.outside;
}

module _ (cw : ℕ) (d : DisplayState) (wide : cw ≡ character_width d.host) where
  abbrev chosen : ℕ → ℕ → Bool → List ℕ
  chosen x i v = colour_of_source_dot d (if v then dot_of_counter (counter_of_character d.crtc x) i else dot_of_counter (counter_of_character d.crtc (x + 1)) (i - character_width d.host))

  -- a dot that panning leaves in its character
  dot_here : (x k : ℕ) → k + panning_shift d.host d.crtc d.attr < cw → unpanned_colour d x (k + panning_shift d.host d.crtc d.attr)
      ≡ dot_colour d.host (with_beam_at_dot_of_character d.crtc x k) d.attr d.dac
  dot_here x k l =
      let i = k + panning_shift d.host d.crtc d.attr in
      sym (line_source d x k ∙ ap (chosen x i) (ap (nat_lt i) (sym wide) ∙ lt-ltb i cw l))

  -- a dot that it takes from the next one
  dot_next : (x k : ℕ) → cw ≤ k + panning_shift d.host d.crtc d.attr → unpanned_colour d (x + 1) (k + panning_shift d.host d.crtc d.attr - cw)
      ≡ dot_colour d.host (with_beam_at_dot_of_character d.crtc x k) d.attr d.dac
  dot_next x k l =
      let i = k + panning_shift d.host d.crtc d.attr in
      ap (λ w. unpanned_colour d (x + 1) (i - w)) wide ∙ sym (line_source d x k ∙ ap (chosen x i) (ap (nat_lt i) (sym wide) ∙ le-ltb i cw l))

  -- a line of one colour, which is that of each dot wherever it comes from
  pub line_filled : (n : ℕ) (colour row0 row1 : List ℕ) → AreCharactersPut cw n (λ x i. colour) row0 row1 → ((s : SourceDot) → colour ≡ colour_of_source_dot d s) →
      IsLineDrawn cw n d row0 row1
  line_filled n colour row0 row1 put same = record {
    inside = λ x k j lx lk lj. put.inside x k j lx lk lj ∙ ap (λ q. slice_index q j) (same _ ∙ sym (line_source d x k));
    outside = put.outside;
  }

  -- characters as they are, where there is no panning
  pub line_unpanned : (n : ℕ) (row0 row1 : List ℕ) → panning_shift d.host d.crtc d.attr ≡ 0 → AreCharactersPut cw n (unpanned_colour d) row0 row1 →
      IsLineDrawn cw n d row0 row1
  line_unpanned n row0 row1 none put = record {
    inside = λ x k j lx lk lj.
        let z : k ≡ k + panning_shift d.host d.crtc d.attr = omega (arith, none) in
        put.inside x k j lx lk lj ∙ ap (λ q. slice_index q j) (ap (unpanned_colour d x) z ∙ dot_here x k (omega arith));
    outside = put.outside;
  }

  -- one character more than the line has, from the first dot that is shown on
  pub line_panned : (n p : ℕ) (blank drawn row0 row1 : List ℕ) → p ≡ panning_shift d.host d.crtc d.attr → p ≤ cw →
      AreCharactersPut cw (n + 1) (unpanned_colour d) blank drawn
      → AreDotsPut (n * cw) 0 (λ i. bytes_of_dot drawn (p + i)) row0 row1 → IsLineDrawn cw n d row0 row1
  line_panned n p blank drawn row0 row1 by few put copied = record {
    inside = λ x k j lx lk lj.
        let fits = row_fits x cw n cw lx (omega arith) in
        let z : x * cw + k ≡ 0 + (x * cw + k) = omega arith in
        let shown : k + p ≡ k + panning_shift d.host d.crtc d.attr = ap (λ q. k + q) by in
        ap (λ q. slice_index row1 (3 * q + j)) z ∙ copied.inside (x * cw + k) j (omega arith) lj ∙ dot_byte drawn (p + (x * cw + k)) j lj
        ∙ ⊎_elim
        (λ (l : k + p < cw).
        let m : p + (x * cw + k) ≡ x * cw + (k + p) = omega arith in
        ap (λ q. slice_index drawn (3 * q + j)) m ∙ put.inside x (k + p) j (omega arith) l lj
        ∙ ap (λ q. slice_index q j) (ap (unpanned_colour d x) shown ∙ dot_here x k (omega (arith, l, by))))
        (λ (l : cw ≤ k + p).
        let m : p + (x * cw + k) ≡ (x + 1) * cw + (k + p - cw) = omega arith in
        ap (λ q. slice_index drawn (3 * q + j)) m ∙ put.inside (x + 1) (k + p - cw) j (omega arith) (omega arith) lj
        ∙ ap (λ q. slice_index q j) (ap (λ q. unpanned_colour d (x + 1) (q - cw)) shown ∙ dot_next x k (omega (arith, l, by))))
        (cases_lt (k + p) cw);
    outside = λ i o. copied.outside i (inr (omega arith));
  }

  -- a part of one colour
  pub part_filled : (n : ℕ) (colour row0 row1 : List ℕ) → AreCharactersPut 1 n (λ x i. colour) row0 row1 → ((s : SourceDot) → colour ≡ colour_of_source_dot d s) →
      AreNextDotsDrawn cw n d row0 row1
  part_filled n colour row0 row1 put same = record {
    inside = λ i j li lj.
        let q = dot_number_in_line cw d.crtc.beam + i in
        let z : 3 * (0 + i) + j ≡ 3 * (i * 1 + 0) + j = omega arith in
        ap (slice_index row1) z ∙ put.inside i 0 j li (omega arith) lj ∙ ap (λ q. slice_index q j) (same _ ∙ sym (line_source d (q / cw) (q % cw)));
    outside = λ k o. put.outside k (⊎_elim (λ (l : k < 3 * 0). absurd (omega (arith, l))) (λ (l : 3 * (0 + n) ≤ k). omega (arith, l)) o);
  }

  -- whatever lies before the part in its first character is left out
  pub part_panned : (n first skipped count p : ℕ) (blank drawn row0 row1 : List ℕ) → 0 < cw → p ≡ panning_shift d.host d.crtc d.attr → p ≤ cw
      → first * cw + skipped ≡ dot_number_in_line cw d.crtc.beam + p → skipped + n ≤ count * cw
      → AreCharactersPut cw count (λ x. unpanned_colour d (first + x)) blank drawn
      → AreDotsPut n 0 (λ i. bytes_of_dot drawn (skipped + i)) row0 row1 → AreNextDotsDrawn cw n d row0 row1
  part_panned n first skipped count p blank drawn row0 row1 some by few begin fits put copied = record {
    inside = λ i j li lj.
        let q = dot_number_in_line cw d.crtc.beam + i in
        let x = q / cw in
        let k = q % cw in
        let at = div-add-mod' q cw in
        let u = skipped + i in
        let y = u / cw in
        let t = u % cw in
        let source = div-add-mod' u cw in
        let inside = mod_below q cw some in
        let within = mod_below u cw some in
        let shown : k + p ≡ k + panning_shift d.host d.crtc d.attr = ap (λ q. k + q) by in
        let there : (first + y) * cw + t ≡ x * cw + k + p = omega (arith, at, source, begin) in
        copied.inside i j li lj ∙ dot_byte drawn u j lj
        ∙ ap (λ q. slice_index drawn (3 * q + j)) (sym source) ∙ put.inside y t j (div_below u cw count some (omega (arith, fits))) within lj
        ∙ ap (λ q. slice_index q j) (⊎_elim
        (λ (l : k + p < cw).
        let same = same_place cw (first + y) t x (k + p) within l (omega (arith, there)) in
        ap (λ q. unpanned_colour d q t) same.0 ∙ ap (unpanned_colour d x) (same.1 ∙ shown) ∙ dot_here x k (omega (arith, l, by)))
        (λ (l : cw ≤ k + p).
        let same = same_place cw (first + y) t (x + 1) (k + p - cw) within (omega (arith, inside, few, l)) (omega (arith, there, l)) in
        ap (λ q. unpanned_colour d q t) same.0 ∙ ap (unpanned_colour d (x + 1)) (same.1 ∙ ap (λ q. q - cw) shown) ∙ dot_next x k (omega (arith, l, by)))
        (cases_lt (k + p) cw));
    outside = copied.outside;
  }

narrow_if : (v : Bool) → (if v then 8 else 9) < 10
narrow_if true = omega arith
narrow_if false = omega arith

-- a character has fewer than ten dots
pub narrow : (h : HostState) (cw : ℕ) → cw ≡ character_width h → cw < 10
narrow h cw e = omega (arith, e, narrow_if (is_eight_dots h))

wide_if : (v : Bool) → 8 ≤ (if v then 8 else 9)
wide_if true = omega arith
wide_if false = omega arith

-- and at least eight
pub eight_wide : (h : HostState) (cw : ℕ) → cw ≡ character_width h → 8 ≤ cw
eight_wide h cw e = omega (arith, e, wide_if (is_eight_dots h))
