-- Countdowns: how many dots lead to the first dot of a line or of a character, where each dot lowers the count by one.
use Rattle.std.proofs.Common.{◌≡◌, ℕ, zero, suc, ◌+◌, ◌-◌, ◌*◌, ◌<◌, ◌≤◌, ◌⊎◌, refl, sym, ap, ◌∙◌, subst, ⊎_elim, inl, inr, arith, List}
use Rattle.std.specs.Prelude.{nat_lt, if◌then◌else◌}
use Rattle.std.proofs.lemmas.Bool.{cases_lt, cases_order, lt-ltb, le-ltb}
use Rattle.vga_crtc.specs.declared.beam.Beam.{Beam}
use Rattle.vga_crtc.specs.Beam.{characters, lines, with_frame_start_taken, dot, dots}
use Rattle.vga_crtc.specs.Raster.{dots_to_line_end, dots_to_frame_end, IsLineStart, IsFrameStart}
use Rattle.vga_crtc.specs.Clock.{dots_to_line}
use Rattle.vga_crtc.proofs.Moves.{moved_in, moved_out, next_character, last_character, frame_follows, next_line_start, next_in_frame, started_place}
use Rattle.vga_crtc.proofs.Dots.{dots_none, dots_one, dots_next}

-- ---- where one dot leads, and from which places

-- c is at these places
pub record IsAt (c : Beam) (v h k : ℕ) : Type 0 where
  pub line : c.line ≡ v
  pub character : c.character ≡ h
  pub dot : c.dot ≡ k

-- from b to the next dot of the character
pub record ToDot (cw : ℕ) (b c : Beam) : Type 0 where
  pub at : IsAt c b.line b.character (b.dot + 1)
  pub within : b.dot + 1 < cw

-- to the next character of the line
pub record ToCharacter (cw : ℕ) (r : List ℕ) (b c : Beam) : Type 0 where
  pub at : IsAt c b.line (b.character + 1) 0
  pub last_dot : cw ≤ b.dot + 1
  pub within : b.character + 1 < characters r

-- to the next line of the frame
pub record ToLine (cw : ℕ) (r : List ℕ) (b c : Beam) : Type 0 where
  pub at : IsAt c (b.line + 1) 0 0
  pub last_dot : cw ≤ b.dot + 1
  pub last_character : characters r ≤ b.character + 1
  pub within : b.line + 1 < lines r

-- to the next frame
pub record ToFrame (cw : ℕ) (r : List ℕ) (b c : Beam) : Type 0 where
  pub at : IsAt c 0 0 0
  pub last_dot : cw ≤ b.dot + 1
  pub last_character : characters r ≤ b.character + 1
  pub last_line : lines r ≤ b.line + 1

abbrev pub Leads : ℕ → List ℕ → Beam → Beam → Type 0
Leads cw r b c = ToDot cw b c ⊎ (ToCharacter cw r b c ⊎ (ToLine cw r b c ⊎ ToFrame cw r b c))

pub dot_leads : (cw : ℕ) (r : List ℕ) (b : Beam) → Leads cw r b (dot cw r b)
dot_leads cw r b =
    let s : Beam = with_frame_start_taken r b in
    let place = started_place r b in
    ⊎_elim
    (λ (within : s.dot + 1 < cw).
    let e = moved_in cw r s within in
    inl (record {
      at = record {
        line = ap (λ (x : Beam). x.line) e ∙ place.line;
        character = ap (λ (x : Beam). x.character) e ∙ place.character;
        dot = ap (λ (x : Beam). x.dot) e ∙ ap (λ k. k + 1) place.dot;
      };
      within = omega (arith, place.dot);
    }))
    (λ (last_dot : cw ≤ s.dot + 1). ⊎_elim
    (λ (within : s.character + 1 < characters r).
    let e = moved_out cw r s last_dot ∙ next_character r s within in
    inr (inl (record {
      at = record {
        line = ap (λ (x : Beam). x.line) e ∙ place.line;
        character = ap (λ (x : Beam). x.character) e ∙ ap (λ c. c + 1) place.character;
        dot = ap (λ (x : Beam). x.dot) e;
      };
      last_dot = omega (arith, place.dot);
      within = omega (arith, place.character);
    })))
    (λ (last : characters r ≤ s.character + 1).
    let e = moved_out cw r s last_dot ∙ last_character r s last in
    inr (inr (⊎_elim
    (λ (within : s.line + 1 < lines r).
    let start = subst IsLineStart (sym e) (next_line_start r s) in
    inl (record {
      at = record {
        line = ap (λ (x : Beam). x.line) e ∙ (next_in_frame r s within).0 ∙ ap (λ v. v + 1) place.line;
        character = start.character;
        dot = start.dot;
      };
      last_dot = omega (arith, place.dot);
      last_character = omega (arith, place.character);
      within = omega (arith, place.line);
    }))
    (λ (past : lines r ≤ s.line + 1).
    let start = subst IsFrameStart (sym (e ∙ frame_follows r s past)) (record { line = refl; character = refl; dot = refl }) in
    inr (record {
      at = record { line = start.line; character = start.character; dot = start.dot };
      last_dot = omega (arith, place.dot);
      last_character = omega (arith, place.character);
      last_line = omega (arith, place.line);
    }))
    (cases_lt (s.line + 1) (lines r)))))
    (cases_lt (s.character + 1) (characters r)))
    (cases_lt (s.dot + 1) cw)

-- ---- countdowns

-- what is known of the beam is kept by each dot while a count is above one, which the dot lowers; the last one leads to an end
pub record CountsDown (Known PieceEnd : Beam → Type 0) (left : Beam → ℕ) (cw : ℕ) (r : List ℕ) : Type 0 where
  pub step : (b : Beam) → Known b → 1 < left b → Known (dot cw r b) × (left b ≡ left (dot cw r b) + 1)
  pub last : (b : Beam) → Known b → left b ≡ 1 → PieceEnd (dot cw r b)

-- a count of n + 1 ends after n + 1 dots
pub count_ends : (Known PieceEnd : Beam → Type 0) (left : Beam → ℕ) (cw : ℕ) (r : List ℕ) → CountsDown Known PieceEnd left cw r → (n : ℕ) (b : Beam) → Known b →
    left b ≡ suc n → PieceEnd (dots cw r (suc n) b)
count_ends Known PieceEnd left cw r counts zero b known e =
    subst PieceEnd (sym (dots_one cw r b)) (counts.last b known (omega (arith, e)))
count_ends Known PieceEnd left cw r counts (suc n) b known e =
    let step = counts.step b known (omega (arith, e)) in
    subst PieceEnd (sym (dots_next cw r (suc n) b)) (count_ends Known PieceEnd left cw r counts n (dot cw r b) step.0 (omega (arith, e, step.1)))

-- what is known is known up to there
pub count_keeps : (Known PieceEnd : Beam → Type 0) (left : Beam → ℕ) (cw : ℕ) (r : List ℕ) → CountsDown Known PieceEnd left cw r → (m : ℕ) (b : Beam) → Known b →
    m < left b → Known (dots cw r m b)
count_keeps Known PieceEnd left cw r counts zero b known few = subst Known (sym (dots_none cw r b)) known
count_keeps Known PieceEnd left cw r counts (suc m) b known few =
    let step = counts.step b known (omega (arith, few)) in
    subst Known (sym (dots_next cw r m b)) (count_keeps Known PieceEnd left cw r counts m (dot cw r b) step.0 (omega (arith, few, step.1)))

-- what each dot keeps is known after any number of them
pub always_known : (Known : Beam → Type 0) (cw : ℕ) (r : List ℕ) → ((b : Beam) → Known b → Known (dot cw r b)) → (m : ℕ) (b : Beam) → Known b →
    Known (dots cw r m b)
always_known Known cw r keeps zero b known = subst Known (sym (dots_none cw r b)) known
always_known Known cw r keeps (suc m) b known = subst Known (sym (dots_next cw r m b)) (always_known Known cw r keeps m (dot cw r b) (keeps b known))

-- ---- the count to the first dot of a line

-- the same in numbers: of l lines of n characters of w dots, from line v, character h, dot k to line t
abbrev pub in_line : ℕ → ℕ → ℕ → ℕ → ℕ
in_line n w h k = (n - (h + 1)) * w + (w - (k + 1)) + 1

abbrev to_line : ℕ → ℕ → ℕ → ℕ → ℕ → ℕ → ℕ → ℕ
to_line t l n w v h k =
    if nat_lt v t then (t - (v + 1)) * (n * w) + in_line n w h k
    else t * (n * w) + ((l - (v + 1)) * (n * w) + in_line n w h k)

to_line_before : (t l n w v h k : ℕ) → v < t → to_line t l n w v h k ≡ (t - (v + 1)) * (n * w) + in_line n w h k
to_line_before t l n w v h k before =
    ap (λ z. if z then (t - (v + 1)) * (n * w) + in_line n w h k else t * (n * w) + ((l - (v + 1)) * (n * w) + in_line n w h k)) (lt-ltb v t before)

to_line_past : (t l n w v h k : ℕ) → t ≤ v → to_line t l n w v h k ≡ t * (n * w) + ((l - (v + 1)) * (n * w) + in_line n w h k)
to_line_past t l n w v h k past =
    ap (λ z. if z then (t - (v + 1)) * (n * w) + in_line n w h k else t * (n * w) + ((l - (v + 1)) * (n * w) + in_line n w h k)) (le-ltb v t past)

-- a line's count, by one dot
pub next_dot : (n w h k : ℕ) → k + 1 < w → in_line n w h k ≡ in_line n w h (k + 1) + 1
next_dot n w h k within = let e : w - (k + 1) ≡ (w - (k + 1 + 1)) + 1 = omega arith in omega (arith, e)

pub next_of_line : (n w h k : ℕ) → w ≤ k + 1 → h + 1 < n → 0 < w → in_line n w h k ≡ in_line n w (h + 1) 0 + 1
next_of_line n w h k last within some =
    let e : n - (h + 1) ≡ (n - (h + 1 + 1)) + 1 = omega arith in
    let z : w - (k + 1) ≡ 0 = omega arith in
    ap (λ i. i * w + (w - (k + 1)) + 1) e ∙ ap (λ i. ((n - (h + 1 + 1)) + 1) * w + i + 1) z ∙ omega arith

pub line_last : (n w h k : ℕ) → w ≤ k + 1 → n ≤ h + 1 → in_line n w h k ≡ 1
line_last n w h k last_dot last =
    let e : n - (h + 1) ≡ 0 = omega arith in
    let z : w - (k + 1) ≡ 0 = omega arith in
    ap (λ i. i * w + (w - (k + 1)) + 1) e ∙ ap (λ i. 0 * w + i + 1) z ∙ omega arith

line_whole : (n w : ℕ) → 0 < n → 0 < w → in_line n w 0 0 ≡ n * w
line_whole zero w some wide = absurd (omega arith)
line_whole (suc n) w some wide = let e : suc n - (0 + 1) ≡ n = omega arith in ap (λ m. m * w + (w - (0 + 1)) + 1) e ∙ omega arith

-- the count of a line, where only the count within the line changes
same_lines : (t l n w v h k h' k' : ℕ) → in_line n w h k ≡ in_line n w h' k' + 1 → to_line t l n w v h k ≡ to_line t l n w v h' k' + 1
same_lines t l n w v h k h' k' e = ⊎_elim
    (λ (before : v < t). to_line_before t l n w v h k before ∙ omega (arith, e) ∙ ap (λ i. i + 1) (sym (to_line_before t l n w v h' k' before)))
    (λ (past : t ≤ v). to_line_past t l n w v h k past ∙ omega (arith, e) ∙ ap (λ i. i + 1) (sym (to_line_past t l n w v h' k' past)))
    (cases_lt v t)

-- the next line, which is not the one counted to
to_next_line : (t l n w v h k : ℕ) → w ≤ k + 1 → n ≤ h + 1 → v + 1 < l → 0 < n → 0 < w → (v + 1 < t) ⊎ (t < v + 1) →
    to_line t l n w v h k ≡ to_line t l n w (v + 1) 0 0 + 1
to_next_line t l n w v h k last_dot last within some wide other =
    let one = line_last n w h k last_dot last in
    let whole = line_whole n w some wide in
    ⊎_elim
    (λ (before : v + 1 < t).
    let e : t - (v + 1) ≡ (t - (v + 1 + 1)) + 1 = omega arith in
    to_line_before t l n w v h k (omega arith) ∙ ap (λ i. i * (n * w) + in_line n w h k) e ∙ omega (arith, one, whole)
    ∙ ap (λ i. i + 1) (sym (to_line_before t l n w (v + 1) 0 0 before)))
    (λ (past : t < v + 1).
    let e : l - (v + 1) ≡ (l - (v + 1 + 1)) + 1 = omega arith in
    to_line_past t l n w v h k (omega arith) ∙ ap (λ i. t * (n * w) + (i * (n * w) + in_line n w h k)) e ∙ omega (arith, one, whole)
    ∙ ap (λ i. i + 1) (sym (to_line_past t l n w (v + 1) 0 0 (omega arith))))
    other

-- the next line is the one counted to
to_this_line : (t l n w v h k : ℕ) → w ≤ k + 1 → n ≤ h + 1 → v + 1 ≡ t → to_line t l n w v h k ≡ 1
to_this_line t l n w v h k last_dot last here =
    let e : t - (v + 1) ≡ 0 = omega (arith, here) in
    to_line_before t l n w v h k (omega (arith, here)) ∙ ap (λ i. i * (n * w) + in_line n w h k) e ∙ omega (arith, line_last n w h k last_dot last)

-- the next frame, of which a later line is counted to
to_next_frame : (t l n w v h k : ℕ) → w ≤ k + 1 → n ≤ h + 1 → l ≤ v + 1 → t < l → 0 < t → 0 < n → 0 < w →
    to_line t l n w v h k ≡ to_line t l n w 0 0 0 + 1
to_next_frame zero l n w v h k last_dot last past inside later some wide = absurd (omega arith)
to_next_frame (suc t) l n w v h k last_dot last past inside later some wide =
    let one = line_last n w h k last_dot last in
    let whole = line_whole n w some wide in
    let e : l - (v + 1) ≡ 0 = omega arith in
    let f : suc t - (0 + 1) ≡ t = omega arith in
    to_line_past (suc t) l n w v h k (omega arith) ∙ ap (λ i. suc t * (n * w) + (i * (n * w) + in_line n w h k)) e ∙ omega (arith, one, whole)
    ∙ ap (λ i. i * (n * w) + in_line n w 0 0 + 1) (sym f) ∙ ap (λ i. i + 1) (sym (to_line_before (suc t) l n w 0 0 0 later))

-- the next frame, of which the first line is counted to
to_this_frame : (t l n w v h k : ℕ) → w ≤ k + 1 → n ≤ h + 1 → l ≤ v + 1 → t ≡ 0 → to_line t l n w v h k ≡ 1
to_this_frame t l n w v h k last_dot last past here =
    let e : l - (v + 1) ≡ 0 = omega arith in
    to_line_past t l n w v h k (omega (arith, here)) ∙ ap (λ i. t * (n * w) + (i * (n * w) + in_line n w h k)) e
    ∙ ap (λ i. i * (n * w) + (0 * (n * w) + in_line n w h k)) here ∙ omega (arith, line_last n w h k last_dot last)

-- ---- the count of the beam

zero_or_more : (t : ℕ) → (t ≡ 0) ⊎ (0 < t)
zero_or_more zero = inl refl
zero_or_more (suc t) = inr (omega arith)

-- the beam is at the first dot of line t
abbrev pub IsAtLine : ℕ → Beam → Type 0
IsAtLine t c = IsAt c t 0 0

-- the count in numbers
in_numbers : (cw : ℕ) (r : List ℕ) (t : ℕ) (b : Beam) → dots_to_line cw r t b ≡ to_line t (lines r) (characters r) cw b.line b.character b.dot
unfolding dots_to_line dots_to_line_end dots_to_frame_end
in_numbers cw r t b = refl

-- the count at a place
counted_at : (cw : ℕ) (r : List ℕ) (t : ℕ) (c : Beam) (v h k : ℕ) → IsAt c v h k → dots_to_line cw r t c ≡ to_line t (lines r) (characters r) cw v h k
counted_at cw r t c v h k at =
    in_numbers cw r t c ∙ ap (λ i. to_line t (lines r) (characters r) cw i c.character c.dot) at.line
    ∙ ap (λ i. to_line t (lines r) (characters r) cw v i c.dot) at.character ∙ ap (λ i. to_line t (lines r) (characters r) cw v h i) at.dot

-- there are dots to count
pub some_to_line : (cw : ℕ) (r : List ℕ) (t : ℕ) (b : Beam) → 0 < dots_to_line cw r t b
some_to_line cw r t b = ⊎_elim
    (λ (before : b.line < t).
    let e = in_numbers cw r t b ∙ to_line_before t (lines r) (characters r) cw b.line b.character b.dot before in omega (arith, e))
    (λ (past : t ≤ b.line).
    let e = in_numbers cw r t b ∙ to_line_past t (lines r) (characters r) cw b.line b.character b.dot past in omega (arith, e))
    (cases_lt b.line t)

-- a dot leads to the first dot of line t where the count is at its last, and else lowers it
abbrev Lowers : ℕ → List ℕ → ℕ → Beam → Beam → Type 0
Lowers cw r t b c = ((dots_to_line cw r t b ≡ 1) × IsAtLine t c) ⊎ ((dots_to_line cw r t b ≡ dots_to_line cw r t c + 1) × ¬ IsAtLine t c)

lowers : (cw : ℕ) (r : List ℕ) (t : ℕ) (b c : Beam) → 0 < cw → t < lines r → Leads cw r b c → Lowers cw r t b c
lowers cw r t b c wide inside leads =
    let some : 0 < characters r = omega arith in
    let l = lines r in
    let n = characters r in
    let here = in_numbers cw r t b in
    ⊎_elim
    (λ (to : ToDot cw b c).
    inr (
      here ∙ same_lines t l n cw b.line b.character b.dot b.character (b.dot + 1) (next_dot n cw b.character b.dot to.within)
          ∙ ap (λ i. i + 1) (sym (counted_at cw r t c b.line b.character (b.dot + 1) to.at)),
      λ (start : IsAtLine t c). absurd (omega (arith, start.dot, to.at.dot)),
    ))
    (⊎_elim
    (λ (to : ToCharacter cw r b c).
    inr (
      here ∙ same_lines t l n cw b.line b.character b.dot (b.character + 1) 0 (next_of_line n cw b.character b.dot to.last_dot to.within wide)
          ∙ ap (λ i. i + 1) (sym (counted_at cw r t c b.line (b.character + 1) 0 to.at)),
      λ (start : IsAtLine t c). absurd (omega (arith, start.character, to.at.character)),
    ))
    (⊎_elim
    (λ (to : ToLine cw r b c). ⊎_elim
    (λ (this : b.line + 1 ≡ t).
    inl (
      here ∙ to_this_line t l n cw b.line b.character b.dot to.last_dot to.last_character this,
      record { line = to.at.line ∙ this; character = to.at.character; dot = to.at.dot },
    ))
    (λ (other : (b.line + 1 < t) ⊎ (t < b.line + 1)).
    inr (
      here ∙ to_next_line t l n cw b.line b.character b.dot to.last_dot to.last_character to.within some wide other
          ∙ ap (λ i. i + 1) (sym (counted_at cw r t c (b.line + 1) 0 0 to.at)),
      λ (start : IsAtLine t c). ⊎_elim (λ (below : b.line + 1 < t). absurd (omega (arith, start.line, to.at.line, below)))
          (λ (above : t < b.line + 1). absurd (omega (arith, start.line, to.at.line, above))) other,
    ))
    (cases_order (b.line + 1) t))
    (λ (to : ToFrame cw r b c). ⊎_elim
    (λ (first : t ≡ 0).
    inl (
      here ∙ to_this_frame t l n cw b.line b.character b.dot to.last_dot to.last_character to.last_line first,
      record { line = to.at.line ∙ sym first; character = to.at.character; dot = to.at.dot },
    ))
    (λ (later : 0 < t).
    inr (
      here ∙ to_next_frame t l n cw b.line b.character b.dot to.last_dot to.last_character to.last_line inside later some wide
          ∙ ap (λ i. i + 1) (sym (counted_at cw r t c 0 0 0 to.at)),
      λ (start : IsAtLine t c). absurd (omega (arith, start.line, to.at.line, later)),
    ))
    (zero_or_more t))))
    leads

-- what is known is kept up to the first dot of line t, if each dot keeps it or leads there
pub to_line_counts : (Known : Beam → Type 0) (cw : ℕ) (r : List ℕ) (t : ℕ) → 0 < cw → t < lines r →
    ((b c : Beam) → Known b → Leads cw r b c → IsAtLine t c ⊎ Known c) → CountsDown Known (IsAtLine t) (dots_to_line cw r t) cw r
to_line_counts Known cw r t wide inside keeps = record {
  step = λ b known more. ⊎_elim
      (λ (arrives : (dots_to_line cw r t b ≡ 1) × IsAtLine t (dot cw r b)). absurd (omega (arith, arrives.0, more)))
      (λ (lowered : (dots_to_line cw r t b ≡ dots_to_line cw r t (dot cw r b) + 1) × ¬ IsAtLine t (dot cw r b)). (
        ⊎_elim (λ (there : IsAtLine t (dot cw r b)). absurd (lowered.1 there)) (λ (kept : Known (dot cw r b)). kept)
            (keeps b (dot cw r b) known (dot_leads cw r b)),
        lowered.0,
      ))
      (lowers cw r t b (dot cw r b) wide inside (dot_leads cw r b));
  last = λ b known one. ⊎_elim
      (λ (arrives : (dots_to_line cw r t b ≡ 1) × IsAtLine t (dot cw r b)). arrives.1)
      (λ (lowered : (dots_to_line cw r t b ≡ dots_to_line cw r t (dot cw r b) + 1) × ¬ IsAtLine t (dot cw r b)).
      absurd (omega (arith, one, lowered.0, some_to_line cw r t (dot cw r b))))
      (lowers cw r t b (dot cw r b) wide inside (dot_leads cw r b));
}
