-- Where some dots of a line lead from any dot of it.
use Rattle.std.proofs.Common.{◌≡◌, ℕ, zero, suc, ◌+◌, ◌-◌, ◌*◌, ◌/◌, ◌%◌, ◌<◌, ◌≤◌, ⊎_elim, inl, inr, sym, ap, ◌∙◌, arith, List}
use Rattle.std.specs.Prelude.{if◌then◌else◌}
use Rattle.std.proofs.lemmas.Bool.{cases_lt, lt-ltb, le-ltb}
use Rattle.std.proofs.lemmas.Nat.{div-add-mod', div_below, mod_below, div-mul-add, mod-mul-add}
use Rattle.vga_crtc.specs.declared.beam.Beam.{Beam}
use Rattle.vga_crtc.specs.Crtc.{CrtcState}
use Rattle.vga_crtc.specs.Beam.{characters, with_frame_start_taken, next_line, beam_at_next_place, dots, after_dots}
use Rattle.vga_crtc.specs.Raster.{beam_at_dot_of_line, dots_per_line, dots_to_line_end, dot_number_in_line, IsWithinItsLine, beam_after_dots_of_line}
use Rattle.vga_crtc.proofs.Moves.{moved_in, moved_out, next_character, not_started, started_again, started_place}
use Rattle.vga_crtc.proofs.Dots.{dots_none, dots_more, dots_started}
use Rattle.vga_crtc.proofs.Lines.{start_first}
use Rattle.vga_crtc.proofs.Ends.{line_ends}

abbrev mk : Beam → ℕ → ℕ → Beam
mk b x k = record b { character = x; dot = k }

-- a place is its number
placed_at : (cw : ℕ) (b : Beam) (x k q : ℕ) → k < cw → q ≡ x * cw + k → beam_at_dot_of_line cw b q ≡ mk b x k
placed_at cw b x k q l e =
    ap (beam_at_dot_of_line cw b) e ∙ ap (λ i. mk b i ((x * cw + k) % cw)) (div-mul-add x cw k l) ∙ ap (mk b x) (mod-mul-add x cw k l)

-- one dot further in the line
goes_on : (cw : ℕ) (r : List ℕ) (b : Beam) (q : ℕ) → 0 < cw → q + 1 < characters r * cw → beam_at_next_place cw r (beam_at_dot_of_line cw b q) ≡ beam_at_dot_of_line cw b (q + 1)
goes_on cw r b q some within =
    let x = q / cw in
    let k = q % cw in
    let e = div-add-mod' q cw in
    let below = mod_below q cw some in
    ⊎_elim
    (λ (l : k + 1 < cw). moved_in cw r (mk b x k) l ∙ sym (placed_at cw b x (k + 1) (q + 1) l (omega (arith, e))))
    (λ (g : cw ≤ k + 1).
    let here : q + 1 ≡ (x + 1) * cw + 0 = omega (arith, e, g, below) in
    let later : (q + 1) / cw ≡ x + 1 = ap (λ i. i / cw) here ∙ div-mul-add (x + 1) cw 0 some in
    let left = div_below (q + 1) cw (characters r) some within in
    moved_out cw r (mk b x k) g ∙ next_character r (mk b x k) (omega (arith, left, later)) ∙ sym (placed_at cw b (x + 1) 0 (q + 1) some here))
    (cases_lt (k + 1) cw)

-- no start is taken past the first dot of a line
past_first : (cw : ℕ) (r : List ℕ) (b : Beam) (q : ℕ) → 0 < q → with_frame_start_taken r (beam_at_dot_of_line cw b q) ≡ beam_at_dot_of_line cw b q
past_first cw r b q some =
    ⊎_elim
    (λ (l : 0 < q % cw). not_started r (beam_at_dot_of_line cw b q) (inl l))
    (λ (g : q % cw ≤ 0).
    let e = div-add-mod' q cw in
    ⊎_elim
    (λ (l : 0 < q / cw). not_started r (beam_at_dot_of_line cw b q) (inr (inl l)))
    (λ (h : q / cw ≤ 0).
    let none : q / cw ≡ 0 = omega (arith, h) in
    absurd (omega (arith, g, some, e, ap (λ i. i * cw) none)))
    (cases_lt 0 (q / cw)))
    (cases_lt 0 (q % cw))

module _ (cw : ℕ) (r : List ℕ) (b : Beam) (free : with_frame_start_taken r b ≡ b) (inside : IsWithinItsLine cw r b) where
  one_more : (n : ℕ) → with_frame_start_taken r (dots cw r n b) ≡ beam_at_dot_of_line cw b (dot_number_in_line cw b + n) → dot_number_in_line cw b + suc n < dots_per_line cw r →
      dots cw r (suc n) b ≡ beam_at_dot_of_line cw b (dot_number_in_line cw b + suc n)
  one_more n before within =
      let z : suc n ≡ n + 1 = omega arith in
      let i : dot_number_in_line cw b + n + 1 ≡ dot_number_in_line cw b + suc n = omega arith in
      ap (λ m. dots cw r m b) z ∙ dots_more cw r n b ∙ ap (beam_at_next_place cw r) before
      ∙ goes_on cw r b (dot_number_in_line cw b + n) (omega (arith, inside.dot)) (omega arith) ∙ ap (beam_at_dot_of_line cw b) i

  -- the beam n dots on in the line, once the start is taken
  started_some : (n : ℕ) → dot_number_in_line cw b + n < dots_per_line cw r → with_frame_start_taken r (dots cw r n b) ≡ beam_at_dot_of_line cw b (dot_number_in_line cw b + n)
  started_some zero within = ap (with_frame_start_taken r) (dots_none cw r b) ∙ free ∙ sym (placed_at cw b b.character b.dot (dot_number_in_line cw b + 0) inside.dot (omega arith))
  started_some (suc n) within = ap (with_frame_start_taken r) (one_more n (started_some n (omega arith)) within) ∙ past_first cw r b (dot_number_in_line cw b + suc n) (omega arith)

  after_some : (n : ℕ) → dot_number_in_line cw b + suc n < dots_per_line cw r → dots cw r (suc n) b ≡ beam_at_dot_of_line cw b (dot_number_in_line cw b + suc n)
  after_some n within = one_more n (started_some n (omega arith)) within

started_inside : (cw : ℕ) (r : List ℕ) (b : Beam) → IsWithinItsLine cw r b → IsWithinItsLine cw r (with_frame_start_taken r b)
started_inside cw r b inside =
    let place = started_place r b in
    record { character = omega (arith, inside.character, place.character); dot = omega (arith, inside.dot, place.dot) }

same_number : (cw : ℕ) (r : List ℕ) (b : Beam) → dot_number_in_line cw (with_frame_start_taken r b) ≡ dot_number_in_line cw b
same_number cw r b = let place = started_place r b in ap (λ x. x * cw + (with_frame_start_taken r b).dot) place.character ∙ ap (λ k. b.character * cw + k) place.dot

-- the beam some dots further in the line, the start taken
pub beam_goes : (cw : ℕ) (r : List ℕ) (b : Beam) (n : ℕ) → IsWithinItsLine cw r b → dot_number_in_line cw b + n < dots_per_line cw r →
    with_frame_start_taken r (dots cw r n b) ≡ beam_at_dot_of_line cw (with_frame_start_taken r b) (dot_number_in_line cw b + n)
beam_goes cw r b n inside within =
    let e = same_number cw r b in
    start_first cw r n b ∙ started_some cw r (with_frame_start_taken r b) (started_again r b) (started_inside cw r b inside) n (omega (arith, e))
    ∙ ap (λ i. beam_at_dot_of_line cw (with_frame_start_taken r b) (i + n)) e

-- the dots before the beam and from it on
pub line_whole : (cw : ℕ) (r : List ℕ) (b : Beam) → IsWithinItsLine cw r b → dot_number_in_line cw b + dots_to_line_end cw r b ≡ dots_per_line cw r
unfolding dots_to_line_end
line_whole cw r b inside =
    let e = characters r - (b.character + 1) in
    let z = cw - (b.dot + 1) in
    let all : b.character + 1 + e ≡ characters r = omega (arith, inside.character) in
    let wide : b.dot + 1 + z ≡ cw = omega (arith, inside.dot) in
    let sum : b.character * cw + b.dot + (e * cw + z + 1) ≡ (b.character + 1 + e) * cw = omega (arith, wide) in
    sum ∙ ap (λ i. i * cw) all

-- the beam after n dots of its line
pub goes : (cw : ℕ) (r : List ℕ) (b : Beam) (n : ℕ) → IsWithinItsLine cw r b → 0 < n → n ≤ dots_to_line_end cw r b → beam_after_dots_of_line cw r n (with_frame_start_taken r b) ≡ dots cw r n b
goes cw r b zero inside some few = absurd (omega arith)
goes cw r b (suc n) inside some few =
    let s : Beam = with_frame_start_taken r b in
    let e = same_number cw r b in
    let all = line_whole cw r b inside in
    let q = dot_number_in_line cw s + suc n in
    ⊎_elim
    (λ (l : q < dots_per_line cw r).
    ap (λ v. if v then beam_at_dot_of_line cw s q else next_line r s) (lt-ltb q (dots_per_line cw r) l)
    ∙ sym (dots_started cw r (suc n) b some ∙ after_some cw r s (started_again r b) (started_inside cw r b inside) n l))
    (λ (g : dots_per_line cw r ≤ q).
    let whole : dots_to_line_end cw r b ≡ suc n = omega (arith, e, all, few, g) in
    ap (λ v. if v then beam_at_dot_of_line cw s q else next_line r s) (le-ltb q (dots_per_line cw r) g)
    ∙ sym (ap (λ i. dots cw r i b) (sym whole) ∙ (line_ends cw r b (omega (arith, inside.dot))).next))
    (cases_lt q (dots_per_line cw r))

pub part_taken : (cw n : ℕ) (old : CrtcState) (b : Beam) → IsWithinItsLine cw old.registers old.beam → 0 < n → n ≤ dots_to_line_end cw old.registers old.beam
    → b ≡ beam_after_dots_of_line cw old.registers n (with_frame_start_taken old.registers old.beam) → record old { beam = b } ≡ after_dots old cw n
unfolding after_dots
part_taken cw n old b inside some few e = ap (λ (x : Beam). record old { beam = x }) (e ∙ goes cw old.registers old.beam n inside some few)
