-- Dots up to the end of a line and of a frame, counted.
use Rattle.std.proofs.Common.{◌≡◌, ℕ, zero, suc, ◌+◌, ◌-◌, ◌*◌, ◌%◌, ◌<◌, refl, sym, ap, ◌∙◌, subst, ⊎_elim, ◌⊎◌, inl, inr, arith, List}
use Rattle.std.proofs.lemmas.Bool.{cases_order}
use Rattle.vga_crtc.specs.declared.beam.Beam.{Beam}
use Rattle.vga_crtc.specs.Crtc.{CrtcState, first_dot_of_frame}
use Rattle.vga_crtc.specs.Beam.{characters, lines, with_frame_start_taken, next_line, beam_at_next_place, dot, dots, after_dots}
use Rattle.vga_crtc.specs.Raster.{dots_to_line_end, dots_to_frame_end, IsLineStart, IsFrameStart, DotsToLineEndAreFewest, DotsToFrameEndAreFewest, IsLineTaken}
use Rattle.vga_crtc.proofs.Moves.{character_ended, moved_in, moved_out, next_character, last_character, frame_follows, next_line_start, next_in_frame}
use Rattle.vga_crtc.proofs.Moves.{not_started, started_again, started_place}
use Rattle.vga_crtc.proofs.Dots.{dots_one, dots_split, dots_started}

-- n dots lead from old to new, and no place between them is such a place
pub record Leads (P : Beam → Type 0) (cw : ℕ) (r : List ℕ) (n : ℕ) (old new : Beam) : Type 0 where
  pub by_dots : dots cw r n old ≡ new
  pub first : (m : ℕ) → 0 < m → m < n → ¬ P (dots cw r m old)

module _ (P : Beam → Type 0) (cw : ℕ) (r : List ℕ) where
  one_dot : (b c : Beam) → dot cw r b ≡ c → Leads P cw r 1 b c
  one_dot b c e = record { by_dots = dots_one cw r b ∙ e; first = λ m lo hi. absurd (omega arith) }

  counted : (b c : Beam) (m n : ℕ) → m ≡ n → Leads P cw r m b c → Leads P cw r n b c
  counted b c m n e way = subst (λ k. Leads P cw r k b c) e way

  -- one way and then another, where the place between is no such place
  then_leads : (a b c : Beam) (i j : ℕ) → Leads P cw r i a b → ¬ P b → Leads P cw r j b c → Leads P cw r (i + j) a c
  then_leads a b c i j to_b not_b to_c =
      let after : (m : ℕ) → dots cw r (i + m) a ≡ dots cw r m b = λ m. dots_split cw r i m a ∙ ap (dots cw r m) to_b.by_dots in
      record {
        by_dots = after j ∙ to_c.by_dots;
        first = λ m lo hi. ⊎_elim
            (λ (here : m ≡ i). λ p. not_b (subst P (ap (λ k. dots cw r k a) here ∙ to_b.by_dots) p))
            (⊎_elim
            (λ (before : m < i). to_b.first m lo before)
            (λ (beyond : i < m).
            let e : m ≡ i + (m - i) = omega arith in
            λ p. to_c.first (m - i) (omega arith) (omega arith) (subst P (ap (λ k. dots cw r k a) e ∙ after (m - i)) p)))
            (cases_order m i);
      }

-- up to the end of a character
pub to_character_end : (cw : ℕ) (r : List ℕ) (j : ℕ) (b : Beam) → j ≡ cw - (b.dot + 1) → with_frame_start_taken r b ≡ b →
    Leads IsLineStart cw r (j + 1) b (character_ended r b)
to_character_end cw r zero b left by_dots = one_dot IsLineStart cw r b (character_ended r b) (ap (beam_at_next_place cw r) by_dots ∙ moved_out cw r b (omega arith))
to_character_end cw r (suc j) b left by_dots =
    let next : Beam = record b { dot = b.dot + 1 } in
    let first = one_dot IsLineStart cw r b next (ap (beam_at_next_place cw r) by_dots ∙ moved_in cw r b (omega arith)) in
    let rest = to_character_end cw r j next (omega arith) (not_started r next (inl (omega arith))) in
    counted IsLineStart cw r b (character_ended r b) (1 + (j + 1)) (suc j + 1) (omega arith)
    (then_leads IsLineStart cw r b next (character_ended r b) 1 (j + 1) first (λ (start : IsLineStart next). absurd (omega (arith, start.dot))) rest)

-- up to the end of a line
to_line_end : (cw : ℕ) (r : List ℕ) (i : ℕ) (b : Beam) → 0 < cw → i ≡ characters r - (b.character + 1) → with_frame_start_taken r b ≡ b →
    Leads IsLineStart cw r (i * cw + (cw - (b.dot + 1)) + 1) b (next_line r b)
to_line_end cw r zero b some left by_dots =
    let j = cw - (b.dot + 1) in
    let e : j + 1 ≡ 0 * cw + j + 1 = omega arith in
    counted IsLineStart cw r b (next_line r b) (j + 1) (0 * cw + j + 1) e
    (subst (Leads IsLineStart cw r (j + 1) b) (last_character r b (omega arith)) (to_character_end cw r j b refl by_dots))
to_line_end cw r (suc i) b some left by_dots =
    let next : Beam = record b { dot = 0; character = b.character + 1 } in
    let j = cw - (b.dot + 1) in
    let first = subst (Leads IsLineStart cw r (j + 1) b) (next_character r b (omega arith)) (to_character_end cw r j b refl by_dots) in
    let rest = to_line_end cw r i next some (omega arith) (not_started r next (inr (inl (omega arith)))) in
    let e : (j + 1) + (i * cw + (cw - (0 + 1)) + 1) ≡ suc i * cw + j + 1 = omega arith in
    counted IsLineStart cw r b (next_line r b) ((j + 1) + (i * cw + (cw - (0 + 1)) + 1)) (suc i * cw + j + 1) e
    (then_leads IsLineStart cw r b next (next_line r b) (j + 1) (i * cw + (cw - (0 + 1)) + 1) first
    (λ (start : IsLineStart next). absurd (omega (arith, start.character))) rest)

-- the line of the dots that are left, from a beam with the start taken
pub whole_line : (cw : ℕ) (r : List ℕ) (b : Beam) → 0 < cw → with_frame_start_taken r b ≡ b → Leads IsLineStart cw r (dots_to_line_end cw r b) b (next_line r b)
unfolding dots_to_line_end
whole_line cw r b some by_dots = to_line_end cw r (characters r - (b.character + 1)) b some refl by_dots

pub same_count : (cw : ℕ) (r : List ℕ) (b : Beam) → dots_to_line_end cw r (with_frame_start_taken r b) ≡ dots_to_line_end cw r b
unfolding dots_to_line_end
same_count cw r b =
    let place = started_place r b in
    ap (λ c. (characters r - (c + 1)) * cw + (cw - ((with_frame_start_taken r b).dot + 1)) + 1) place.character
    ∙ ap (λ k. (characters r - (b.character + 1)) * cw + (cw - (k + 1)) + 1) place.dot

some_in_line : (cw : ℕ) (r : List ℕ) (b : Beam) → 0 < dots_to_line_end cw r b
unfolding dots_to_line_end
some_in_line cw r b = omega arith

some_in_frame : (cw : ℕ) (r : List ℕ) (b : Beam) → 0 < dots_to_frame_end cw r b
unfolding dots_to_frame_end
some_in_frame cw r b = omega (arith, some_in_line cw r b)

-- the same way, whether the start is taken or not
unstarted : (P : Beam → Type 0) (cw : ℕ) (r : List ℕ) (n : ℕ) (b c : Beam) → 0 < n → Leads P cw r n (with_frame_start_taken r b) c → Leads P cw r n b c
unstarted P cw r n b c some way = record {
  by_dots = dots_started cw r n b some ∙ way.by_dots;
  first = λ m lo hi p. way.first m lo hi (subst P (dots_started cw r m b lo) p);
}

pub line_ends : (cw : ℕ) (r : List ℕ) (b : Beam) → 0 < cw → DotsToLineEndAreFewest cw r b
line_ends cw r b some =
    let s : Beam = with_frame_start_taken r b in
    let n = dots_to_line_end cw r b in
    let way = unstarted IsLineStart cw r n b (next_line r s) (some_in_line cw r b)
    (counted IsLineStart cw r s (next_line r s) (dots_to_line_end cw r s) n (same_count cw r b) (whole_line cw r s some (started_again r b))) in
    record {
      some = some_in_line cw r b;
      next = way.by_dots;
      there = subst IsLineStart (sym way.by_dots) (next_line_start r s);
      first = way.first;
    }

-- the dots of a line, taken
pub line_taken : (cw : ℕ) (old new : CrtcState) → (cw ≡ 8) ⊎ (cw ≡ 9) → new ≡ after_dots old cw (dots_to_line_end cw old.registers old.beam) →
    IsLineTaken cw old new
line_taken cw old new width by_dots = record {
  by_dots = by_dots;
  ends = line_ends cw old.registers old.beam (omega arith);
}

-- the next line, come to at once
pub line_left : (cw : ℕ) (old : CrtcState) (b : Beam) → (cw ≡ 8) ⊎ (cw ≡ 9) → b ≡ next_line old.registers (with_frame_start_taken old.registers old.beam) →
    IsLineTaken cw old (record old { beam = b })
unfolding after_dots
line_left cw old b width e =
    let ends = line_ends cw old.registers old.beam (omega arith) in
    line_taken cw old (record old { beam = b }) width (ap (λ (x : Beam). record old { beam = x }) (e ∙ sym ends.next))

-- ---- a frame

-- where no line starts, no frame does
away_from_frame : (cw : ℕ) (r : List ℕ) (n : ℕ) (b c : Beam) → Leads IsLineStart cw r n b c → Leads IsFrameStart cw r n b c
away_from_frame cw r n b c way = record {
  by_dots = way.by_dots;
  first = λ m lo hi (start : IsFrameStart (dots cw r m b)). way.first m lo hi (record { character = start.character; dot = start.dot });
}

-- from the first dot of a line all its dots are left
whole_product : (n cw : ℕ) → 0 < n → 0 < cw → (n - (0 + 1)) * cw + (cw - (0 + 1)) + 1 ≡ n * cw
whole_product zero cw some wide = absurd (omega arith)
whole_product (suc n) cw some wide = let e : suc n - (0 + 1) ≡ n = omega arith in ap (λ m. m * cw + (cw - (0 + 1)) + 1) e ∙ omega arith

pub from_line_start : (cw : ℕ) (r : List ℕ) (b : Beam) → IsLineStart b → 0 < cw → dots_to_line_end cw r b ≡ characters r * cw
unfolding dots_to_line_end
from_line_start cw r b start some =
    ap (λ c. (characters r - (c + 1)) * cw + (cw - (b.dot + 1)) + 1) start.character
    ∙ ap (λ k. (characters r - (0 + 1)) * cw + (cw - (k + 1)) + 1) start.dot
    ∙ whole_product (characters r) cw (omega arith) some

-- up to the end of a frame, which is i lines after this one
to_frame_end : (cw : ℕ) (r : List ℕ) (i : ℕ) (b : Beam) → 0 < cw → i ≡ lines r - (b.line + 1) → with_frame_start_taken r b ≡ b →
    Leads IsFrameStart cw r (i * (characters r * cw) + dots_to_line_end cw r b) b (first_dot_of_frame ((b.frame + 1) % 32))
to_frame_end cw r zero b some left by_dots =
    let n = dots_to_line_end cw r b in
    let e : n ≡ 0 * (characters r * cw) + n = omega arith in
    counted IsFrameStart cw r b (first_dot_of_frame ((b.frame + 1) % 32)) n (0 * (characters r * cw) + n) e
    (subst (Leads IsFrameStart cw r n b) (frame_follows r b (omega arith)) (away_from_frame cw r n b (next_line r b) (whole_line cw r b some by_dots)))
to_frame_end cw r (suc i) b some left by_dots =
    let next : Beam = next_line r b in
    let place = next_in_frame r b (omega arith) in
    let n = dots_to_line_end cw r b in
    let line = characters r * cw in
    let first = away_from_frame cw r n b next (whole_line cw r b some by_dots) in
    let below : 0 < next.line = omega (arith, place.0) in
    let rest = to_frame_end cw r i next some (omega (arith, place.0)) (not_started r next (inr (inr below))) in
    let full = from_line_start cw r next (next_line_start r b) some in
    let e : n + (i * line + dots_to_line_end cw r next) ≡ suc i * line + n = omega (arith, full) in
    subst (λ f. Leads IsFrameStart cw r (suc i * line + n) b (first_dot_of_frame ((f + 1) % 32))) place.1
    (counted IsFrameStart cw r b (first_dot_of_frame ((next.frame + 1) % 32)) (n + (i * line + dots_to_line_end cw r next)) (suc i * line + n) e
    (then_leads IsFrameStart cw r b next (first_dot_of_frame ((next.frame + 1) % 32)) n (i * line + dots_to_line_end cw r next) first
    (λ (start : IsFrameStart next). absurd (omega (arith, start.line, below))) rest))

pub same_frame_count : (cw : ℕ) (r : List ℕ) (b : Beam) → dots_to_frame_end cw r (with_frame_start_taken r b) ≡ dots_to_frame_end cw r b
unfolding dots_to_frame_end
same_frame_count cw r b =
    let place = started_place r b in
    ap (λ v. (lines r - (v + 1)) * (characters r * cw) + dots_to_line_end cw r (with_frame_start_taken r b)) place.line
    ∙ ap (λ n. (lines r - (b.line + 1)) * (characters r * cw) + n) (same_count cw r b)

pub frame_ends : (cw : ℕ) (r : List ℕ) (b : Beam) → 0 < cw → DotsToFrameEndAreFewest cw r b
unfolding dots_to_frame_end
frame_ends cw r b some =
    let s : Beam = with_frame_start_taken r b in
    let n = dots_to_frame_end cw r b in
    let i = lines r - (s.line + 1) in
    let place = started_place r b in
    let new : Beam = first_dot_of_frame ((s.frame + 1) % 32) in
    let e = same_frame_count cw r b in
    let way = unstarted IsFrameStart cw r n b new (some_in_frame cw r b)
    (counted IsFrameStart cw r s new (i * (characters r * cw) + dots_to_line_end cw r s) n e (to_frame_end cw r i s some refl (started_again r b))) in
    let next : dots cw r n b ≡ first_dot_of_frame ((b.frame + 1) % 32) = way.by_dots ∙ ap (λ f. first_dot_of_frame ((f + 1) % 32)) place.frame in
    record {
      some = some_in_frame cw r b;
      next = next;
      there = subst IsFrameStart (sym next) (record { line = refl; character = refl; dot = refl });
      first = way.first;
    }
