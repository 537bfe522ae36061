-- The entries of the DAC as four bytes each stay those of its components.
use Rattle.std.proofs.Common.{ℕ, ◌+◌, ◌<◌, ap, ◌∙◌, sym, arith, inl, inr, List, [], ◌∷◌, length}
use Rattle.std.specs.Prelude.{slice_index, slice_index_or, slice_set}
use Rattle.std.proofs.lemmas.Bool.{cases_eq}
use Rattle.std.proofs.lemmas.List.{get_or-set_same, get_or-set_other}
use Rattle.vga_dac.specs.Dac.{ArePaddedEntries}

-- four bytes
abbrev four : ℕ → ℕ → ℕ → List ℕ
four r g b = r ∷ g ∷ b ∷ 0 ∷ []

-- an entry is written with its components
pub entries_set : (n : ℕ) (entries : List (List ℕ)) (reds greens blues : List ℕ) (i r g b : ℕ)
    → i < length entries → i < length reds → i < length greens → i < length blues
    → ArePaddedEntries n entries reds greens blues
    → ArePaddedEntries n (slice_set entries i (r ∷ g ∷ b ∷ 0 ∷ [])) (slice_set reds i r) (slice_set greens i g) (slice_set blues i b)
entries_set n entries reds greens blues i r g b le lr lg lb are = record {
  each = λ j l. elim (cases_eq j i) [
    | inl same ↦ ap (λ k. slice_index_or (slice_set entries i (four r g b)) k []) same ∙ get_or-set_same entries i (four r g b) [] le
        ∙ sym (ap (λ k. four (slice_index (slice_set reds i r) k) (slice_index (slice_set greens i g) k) (slice_index (slice_set blues i b) k)) same
        ∙ ap (λ x. four x (slice_index (slice_set greens i g) i) (slice_index (slice_set blues i b) i)) (get_or-set_same reds i r 0 lr)
        ∙ ap (λ x. four r x (slice_index (slice_set blues i b) i)) (get_or-set_same greens i g 0 lg)
        ∙ ap (four r g) (get_or-set_same blues i b 0 lb))
    | inr other ↦ get_or-set_other entries i j (four r g b) [] other ∙ are.each j l
        ∙ sym (ap (λ x. four x (slice_index (slice_set greens i g) j) (slice_index (slice_set blues i b) j)) (get_or-set_other reds i j r 0 other)
        ∙ ap (λ x. four (slice_index reds j) x (slice_index (slice_set blues i b) j)) (get_or-set_other greens i j g 0 other)
        ∙ ap (four (slice_index reds j) (slice_index greens j)) (get_or-set_other blues i j b 0 other))
  ];
}

-- one entry more
pub entries_more : (n : ℕ) (entries : List (List ℕ)) (reds greens blues : List ℕ) → n < length entries → ArePaddedEntries n entries reds greens blues
    → ArePaddedEntries (n + 1) (slice_set entries n (slice_index reds n ∷ slice_index greens n ∷ slice_index blues n ∷ 0 ∷ [])) reds greens blues
entries_more n entries reds greens blues room are = record {
  each = λ j l. elim (cases_eq j n) [
    | inl same ↦ ap (λ k. slice_index_or (slice_set entries n (four (slice_index reds n) (slice_index greens n) (slice_index blues n))) k []) same
        ∙ get_or-set_same entries n _ [] room ∙ sym (ap (λ k. four (slice_index reds k) (slice_index greens k) (slice_index blues k)) same)
    | inr other ↦ get_or-set_other entries n j _ [] other ∙ are.each j (omega (arith, l, other))
  ];
}
