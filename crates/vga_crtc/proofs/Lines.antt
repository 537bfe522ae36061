-- Where the beam is in a line, and where a line leads.
use Rattle.std.proofs.Common.{◌≡◌, ℕ, zero, suc, ◌+◌, ◌-◌, ◌*◌, ◌/◌, ◌%◌, ◌<◌, ◌≤◌, ◌⊎◌, ⊎_elim, inl, inr, refl, sym, ap, subst, ◌∙◌, arith, List}
use Rattle.std.proofs.lemmas.Bool.{cases_lt}
use Rattle.std.proofs.lemmas.Nat.{div-add-mod', div_below, mod_below}
use Rattle.vga_crtc.specs.declared.beam.Beam.{Beam}
use Rattle.vga_crtc.specs.Beam.{characters, lines, with_frame_start_taken, next_line, beam_at_next_place, dot, dots}
use Rattle.vga_crtc.specs.Raster.{IsLineStart, IsFrameStart, IsNextLine, beam_at_dot_of_line, dots_per_line}
use Rattle.vga_crtc.proofs.Moves.{moved_in, moved_out, next_character, not_started, started_again, started_place, next_in_frame, next_line_start, frame_follows}
use Rattle.vga_crtc.proofs.Dots.{dots_none, dots_more, dots_started}

-- the beam at a dot of a character
abbrev mk : Beam → ℕ → ℕ → Beam
mk b x k = record b { character = x; dot = k }

module _ (cw : ℕ) (r : List ℕ) (b : Beam) (some : 0 < cw) (free : with_frame_start_taken r b ≡ b) (first : b.character ≡ 0) (zeroth : b.dot ≡ 0) where
  same : mk b 0 0 ≡ b
  same = ap (λ n. mk b n 0) (sym first) ∙ ap (λ n. mk b b.character n) (sym zeroth)

  pub steady : (x k : ℕ) → with_frame_start_taken r (mk b x k) ≡ mk b x k
  steady zero zero = ap (with_frame_start_taken r) same ∙ free ∙ sym same
  steady zero (suc k) = not_started r (mk b 0 (suc k)) (inl (omega arith))
  steady (suc x) k = not_started r (mk b (suc x) k) (inr (inl (omega arith)))

  on_dot : (n x k : ℕ) → dots cw r n b ≡ mk b x 0 → k < cw → dots cw r (n + k) b ≡ mk b x k
  on_dot n x zero e l = let z : n + 0 ≡ n = omega arith in ap (λ m. dots cw r m b) z ∙ e
  on_dot n x (suc k) e l =
      let z : n + suc k ≡ (n + k) + 1 = omega arith in
      let i : k + 1 ≡ suc k = omega arith in
      ap (λ m. dots cw r m b) z ∙ dots_more cw r (n + k) b ∙ ap (dot cw r) (on_dot n x k e (omega arith))
      ∙ ap (beam_at_next_place cw r) (steady x k) ∙ moved_in cw r (mk b x k) (omega arith) ∙ ap (mk b x) i

  on_character : (x : ℕ) → x < characters r → dots cw r (x * cw) b ≡ mk b x 0
  on_character zero l = let z : 0 * cw ≡ 0 = omega arith in ap (λ m. dots cw r m b) z ∙ dots_none cw r b ∙ sym same
  on_character (suc x) l =
      let z : suc x * cw ≡ (x * cw + (cw - 1)) + 1 = omega arith in
      let i : x + 1 ≡ suc x = omega arith in
      ap (λ m. dots cw r m b) z ∙ dots_more cw r (x * cw + (cw - 1)) b
      ∙ ap (dot cw r) (on_dot (x * cw) x (cw - 1) (on_character x (omega arith)) (omega arith))
      ∙ ap (beam_at_next_place cw r) (steady x (cw - 1)) ∙ moved_out cw r (mk b x (cw - 1)) (omega arith)
      ∙ next_character r (mk b x (cw - 1)) (omega arith) ∙ ap (λ n. mk b n 0) i

  -- the place of dot i of a line
  pub line_place : (i : ℕ) → i < characters r * cw → dots cw r i b ≡ mk b (i / cw) (i % cw)
  line_place i l =
      ap (λ m. dots cw r m b) (sym (div-add-mod' i cw))
      ∙ on_dot (i / cw * cw) (i / cw) (i % cw) (on_character (i / cw) (div_below i cw (characters r) some l)) (mod_below i cw some)

pub start_first : (cw : ℕ) (r : List ℕ) (n : ℕ) (b : Beam) → with_frame_start_taken r (dots cw r n b) ≡ with_frame_start_taken r (dots cw r n (with_frame_start_taken r b))
start_first cw r zero b = ap (with_frame_start_taken r) (dots_none cw r b) ∙ sym (started_again r b) ∙ ap (with_frame_start_taken r) (sym (dots_none cw r (with_frame_start_taken r b)))
start_first cw r (suc n) b = ap (with_frame_start_taken r) (dots_started cw r (suc n) b (omega arith))

-- the beam at dot n of a line, whatever the start
pub beam_in_line : (cw : ℕ) (r : List ℕ) (b : Beam) (n : ℕ) → IsLineStart b → 0 < cw → n < dots_per_line cw r →
    with_frame_start_taken r (dots cw r n b) ≡ beam_at_dot_of_line cw (with_frame_start_taken r b) n
beam_in_line cw r b n start some within =
    let s : Beam = with_frame_start_taken r b in
    let place = started_place r b in
    let first = place.character ∙ start.character in
    let zeroth = place.dot ∙ start.dot in
    start_first cw r n b ∙ ap (with_frame_start_taken r) (line_place cw r s some (started_again r b) first zeroth n within)
    ∙ steady cw r s some (started_again r b) first zeroth (n / cw) (n % cw)

-- ---- the next line

pub line_moves : (r : List ℕ) (b : Beam) → IsNextLine r b (next_line r b) ⊎ IsFrameStart (next_line r b)
line_moves r b = ⊎_elim
    (λ (within : b.line + 1 < lines r). inl (record { line = (next_in_frame r b within).0; start = next_line_start r b; within = within }))
    (λ (past : lines r ≤ b.line + 1). inr (subst IsFrameStart (sym (frame_follows r b past)) (record { line = refl; character = refl; dot = refl })))
    (cases_lt (b.line + 1) (lines r))
