-- Rows that have changed, and rows that have not.
use Rattle.std.proofs.Common.{◌≡◌, ◌+◌, ◌-◌, ◌<◌, ◌≤◌, ◌∙◌, ℕ, List, sym, subst, arith}
use Rattle.vga_c.specs.Forms.{AreRowsOfWords}
use Rattle.vga_c.specs.Updates.{IsRowOfWords, IsRowKept, AreChangedRows}

module _ (w h p : ℕ) (word : ℕ → ℕ → ℕ) (old new : List ℕ) (written : AreRowsOfWords w h p word old new) where
  kept : (y : ℕ) → y < h → IsRowOfWords w p word old y → IsRowKept w p old new y
  kept y row same x within = written.words x y within row ∙ sym (same x within)

  differs : (y : ℕ) → y < h → ¬ (IsRowOfWords w p word old y) → ¬ (IsRowKept w p old new y)
  differs y row other same = other (λ x within. sym (same x within) ∙ written.words x y within row)

  -- the rows between the first and the last that differ
  pub rows_changed : (first end : ℕ) → first < h → first ≤ end → end ≤ h
      → ((y : ℕ) → y < first → IsRowOfWords w p word old y) → ¬ (IsRowOfWords w p word old first)
      → ((y : ℕ) → end ≤ y → y < h → IsRowOfWords w p word old y) → (first < end → ¬ (IsRowOfWords w p word old (end - 1)))
      → AreChangedRows w h p old new (record { first = first; count = end - first })
  rows_changed first end some order few before one behind last =
      let ends : first + (end - first) ≡ end = omega arith in
      record {
        before = λ y l. kept y (omega (arith, l, some)) (before y l);
        behind = λ y l row. kept y row (behind y (omega (arith, l)) row);
        first = λ more. differs first some one;
        last = λ more. subst (λ (n : ℕ). ¬ (IsRowKept w p old new (n - 1))) (sym ends) (differs (end - 1) (omega (arith, more, few)) (last (omega (arith, more))));
        within = omega (arith, few);
        none = λ e. absurd (one (behind first (omega (arith, e, order)) some));
      }
