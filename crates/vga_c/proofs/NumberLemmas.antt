-- The numbers of dots, one dot after another.
use Rattle.std.proofs.Common.{◌≡◌, ◌+◌, ◌<◌, ◌≤◌, ◌⊎◌, inl, inr, ◌∙◌, ℕ, List, sym, ap, subst, arith, length, eq-or-lt_of_le}
use Rattle.std.specs.Prelude.{slice_index, slice_set}
use Rattle.std.proofs.lemmas.List.{get_or-set_same, get_or-set_other}
use Rattle.std.proofs.lemmas.Bool.{cases_lt}
use Rattle.vga_c.specs.declared.palette.Palette.{Palette}
use Rattle.vga_bits.proofs.ByteLemmas.{zeros_at}
use Rattle.vga_c.specs.Palette.{no_colours, AreDotsNumbered, HasColourNumbered, HaveTooManyColours, NoNumberHasColour}

module _ (i n : ℕ) (colour : ℕ → ℕ) (p q : Palette) (numbers : List ℕ) (so_far : AreDotsNumbered i colour p numbers)
    (done : HasColourNumbered p q n (colour i)) (room : i < length numbers) where
  abbrev pub new : List ℕ
  new = slice_set numbers i n

  here : slice_index new i ≡ n
  here = get_or-set_same numbers i n 0 room

  before : (j : ℕ) → j < i → slice_index new j ≡ slice_index numbers j
  before j earlier = get_or-set_other numbers i j n 0 (λ is. omega (arith, is, earlier))

  inside : (j : ℕ) → (j ≡ i) ⊎ (j < i) → slice_index new j < q.len
  inside j (inl is) = subst (λ (x : ℕ). slice_index new x < q.len) (sym is) (subst (λ (x : ℕ). x < q.len) (sym here) done.inside)
  inside j (inr earlier) = subst (λ (x : ℕ). x < q.len) (sym (before j earlier)) (omega (arith, so_far.inside j earlier, done.grows))

  shown : (j : ℕ) → (j ≡ i) ⊎ (j < i) → slice_index q.colours (slice_index new j) ≡ colour j
  shown j (inl is) = subst (λ (x : ℕ). slice_index q.colours (slice_index new x) ≡ colour x) (sym is) (ap (slice_index q.colours) here ∙ done.shown)
  shown j (inr earlier) =
      ap (slice_index q.colours) (before j earlier) ∙ (done.same (slice_index numbers j) (so_far.inside j earlier) ∙ so_far.shown j earlier)

  abbrev First : ℕ → Type 0
  First k = (d : ℕ) × (d < i + 1) × (slice_index new d ≡ k) × ((j : ℕ) → j < d → slice_index new j < k)

  first : (k : ℕ) → k < q.len → (k < p.len) ⊎ (p.len ≤ k) → First k
  first k within (inl old) =
      let found = so_far.in_order k old in (
        found.0,
        omega (arith, found.1),
        before found.0 found.1 ∙ found.2,
        λ j earlier. subst (λ (x : ℕ). x < k) (sym (before j (omega (arith, earlier, found.1)))) (found.3 j earlier),
      )
  first k within (inr added) = (
    i,
    omega arith,
    here ∙ sym (done.alone k added within),
    λ j earlier. subst (λ (x : ℕ). x < k) (sym (before j earlier)) (omega (arith, so_far.inside j earlier, added)),
  )

  pub dot_more : AreDotsNumbered (i + 1) colour q new
  dot_more = record {
    few = done.few;
    inside = λ j within. inside j (eq-or-lt_of_le (omega (arith, within)));
    shown = λ j within. shown j (eq-or-lt_of_le (omega (arith, within)));
    once = done.once;
    behind = λ k later. done.behind k later ∙ so_far.behind k (omega (arith, later, done.grows));
    in_order = λ k within. first k within (cases_lt k p.len);
  }

pub too_many : (i count : ℕ) (colour : ℕ → ℕ) (p : Palette) (numbers : List ℕ) → AreDotsNumbered i colour p numbers → i < count →
    p.len ≡ 256 → NoNumberHasColour p (colour i) → HaveTooManyColours count colour
too_many i count colour p numbers so_far within full lacks = record {
  palette = p;
  full = full;
  once = so_far.once;
  of_dots = λ k inside. let found = so_far.in_order k inside in
      (found.0, omega (arith, found.1, within), sym (so_far.shown found.0 found.1) ∙ ap (slice_index p.colours) found.2);
  other = (i, within, lacks);
}

-- no dot is numbered by a palette without colours
pub none_numbered : (colour : ℕ → ℕ) (p : Palette) (numbers : List ℕ) → p ≡ no_colours → AreDotsNumbered 0 colour p numbers
none_numbered colour p numbers empty =
    subst (λ (x : Palette). AreDotsNumbered 0 colour x numbers) (sym empty) (record {
      few = omega arith;
      inside = λ i within. absurd (omega (arith, within));
      shown = λ i within. absurd (omega (arith, within));
      once = λ j k before within. absurd (omega (arith, within));
      behind = λ k later. zeros_at 256 k;
      in_order = λ k within. absurd (omega (arith, within));
    })
