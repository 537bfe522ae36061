-- Dots and characters that are put into a row, one after another.
use Rattle.std.proofs.Common.{◌≡◌, ℕ, zero, suc, ◌+◌, ◌*◌, ◌<◌, ◌≤◌, inl, inr, ⊎_elim, refl, sym, ap, ◌∙◌, arith, List, slice_index}
use Rattle.std.proofs.lemmas.Bool.{cases_lt}
use Rattle.std.proofs.lemmas.Nat.{row_fits}
use Rattle.vga_dots.specs.Row.{colour_and_zero_byte, bytes_of_dot, IsDotPut, IsCharacterDotPut, AreFirstDotsPut, AreDotsPut, AreCharactersPut}

-- one dot more
pub dots_more : (n at : ℕ) (f : ℕ → List ℕ) (row0 row1 row2 colour : List ℕ) → AreDotsPut n at f row0 row1 → IsDotPut row1 row2 (at + n) colour → colour ≡ f n →
    AreDotsPut (n + 1) at f row0 row2
dots_more n at f row0 row1 row2 colour before now e = record {
  inside = λ i j li lj. ⊎_elim
      (λ (l : i < n). now.outside (3 * (at + i) + j) (inl (omega arith)) ∙ before.inside i j l lj)
      (λ (g : n ≤ i).
      let z : i ≡ n = omega arith in
      ap (λ q. slice_index row2 (3 * (at + q) + j)) z ∙ now.inside j lj ∙ ap (λ q. slice_index q j) e ∙ ap (λ q. slice_index (f q) j) (sym z))
      (cases_lt i n);
  outside = λ k o. now.outside k (⊎_elim (λ l. inl (omega arith)) (λ l. inr (omega arith)) o)
      ∙ before.outside k (⊎_elim (λ l. inl (omega arith)) (λ l. inr (omega arith)) o);
}

-- one dot more of a character
pub first_more : (cw n at : ℕ) (f : ℕ → List ℕ) (row0 row1 row2 colour : List ℕ) → AreFirstDotsPut cw n at f row0 row1
    → IsCharacterDotPut cw at n colour row1 row2 → colour ≡ f n → AreFirstDotsPut cw (n + 1) at f row0 row2
first_more cw n at f row0 row1 row2 colour before now e = record {
  inside = λ i j li lj. ⊎_elim
      (λ (l : i < n). now.outside (3 * (at + i) + j) (inl (omega arith)) ∙ before.inside i j l lj)
      (λ (g : n ≤ i).
      let z : i ≡ n = omega arith in
      ap (λ q. slice_index row2 (3 * (at + q) + j)) z ∙ now.inside j lj ∙ ap (λ q. slice_index q j) e ∙ ap (λ q. slice_index (f q) j) (sym z))
      (cases_lt i n);
  outside = λ k o. now.outside k (⊎_elim (λ l. inl (omega arith)) (λ l. inr (omega arith)) o) ∙ before.outside k o;
}

-- all dots of a character
pub all_put : (cw n at : ℕ) (f : ℕ → List ℕ) (row0 row1 : List ℕ) → cw ≤ n → AreFirstDotsPut cw n at f row0 row1 → AreDotsPut cw at f row0 row1
all_put cw n at f row0 row1 all put = record { inside = λ i j li lj. put.inside i j (omega (arith, li, all)) lj; outside = put.outside }

-- three bytes of a colour with a byte more
pub padded_byte : (c : List ℕ) (j : ℕ) → j < 3 → slice_index (colour_and_zero_byte c) j ≡ slice_index c j
padded_byte c zero l = refl
padded_byte c (suc zero) l = refl
padded_byte c (suc (suc zero)) l = refl
padded_byte c (suc (suc (suc j))) l = absurd (omega arith)

-- the same bytes by another rule
pub bytes_alike : (n at : ℕ) (f g : ℕ → List ℕ) (row0 row1 : List ℕ) → AreDotsPut n at f row0 row1
    → ((i j : ℕ) → i < n → j < 3 → slice_index (f i) j ≡ slice_index (g i) j) → AreDotsPut n at g row0 row1
bytes_alike n at f g row0 row1 put same = record {
  inside = λ i j li lj. put.inside i j li lj ∙ same i j li lj;
  outside = put.outside;
}

-- the same colours by another rule
pub dots_alike : (n at : ℕ) (f g : ℕ → List ℕ) (row0 row1 : List ℕ) → AreDotsPut n at f row0 row1 → ((i : ℕ) → i < n → f i ≡ g i) → AreDotsPut n at g row0 row1
dots_alike n at f g row0 row1 put same = record {
  inside = λ i j li lj. put.inside i j li lj ∙ ap (λ c. slice_index c j) (same i li);
  outside = put.outside;
}

-- one character more
pub characters_more : (cw n : ℕ) (f : ℕ → ℕ → List ℕ) (row0 row1 row2 : List ℕ) → AreCharactersPut cw n f row0 row1 → AreDotsPut cw (n * cw) (f n) row1 row2 →
    AreCharactersPut cw (n + 1) f row0 row2
characters_more cw n f row0 row1 row2 before now = record {
  inside = λ x i j lx li lj. ⊎_elim
      (λ (l : x < n).
      let fits = row_fits x cw n cw l (omega arith) in
      now.outside (3 * (x * cw + i) + j) (inl (omega arith)) ∙ before.inside x i j l li lj)
      (λ (g : n ≤ x).
      let z : n ≡ x = omega arith in
      ap (λ q. slice_index row2 (3 * (q * cw + i) + j)) (sym z) ∙ now.inside i j li lj ∙ ap (λ q. slice_index (f q i) j) z)
      (cases_lt x n);
  outside = λ k o. now.outside k (inr (omega arith)) ∙ before.outside k (omega arith);
}

-- a byte of a dot in a row
pub dot_byte : (row : List ℕ) (n j : ℕ) → j < 3 → slice_index (bytes_of_dot row n) j ≡ slice_index row (3 * n + j)
dot_byte row n zero l = let z : 3 * n ≡ 3 * n + 0 = omega arith in ap (slice_index row) z
dot_byte row n (suc zero) l = refl
dot_byte row n (suc (suc zero)) l = refl
dot_byte row n (suc (suc (suc j))) l = absurd (omega arith)
