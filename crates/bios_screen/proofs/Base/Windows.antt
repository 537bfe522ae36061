-- The rows and columns of a window: how it is cut, what lies in it, and which rows move.
use Rattle.std.proofs.Common.{◌≡◌, ℕ, ◌+◌, ◌-◌, ◌<◌, ◌≤◌, refl, sym, ap, ◌∙◌, arith, Bool, true, false, Some}
use Rattle.std.specs.Prelude.{◌==◌, ◌&&◌, ◌||◌, nat_lt, nat_le, if◌then◌else◌, min}
use Rattle.std.proofs.lemmas.Bool.Decides.{nat_tests}
use Rattle.bios_screen.proofs.Prelude.{Direction, Up, Down, Window}
use Rattle.bios_services.specs.declared.scroll.Scroll.{Scroll}
use Rattle.bios_services.specs.Bands.{first_row_to_fill}
use Rattle.bios_services.specs.Scroll.{IsOnPage, window_clipped_to_page, scroll_distance}
use Rattle.bios_screen.specs.Step.{is_in_window, has_source_row}
use Rattle.bios_screen.proofs.Base.Tests.{both_true, both_are, if_some, lt_is, le_is, lt_not, le_not, lt_test, le_test}

-- a window cut to the page lies on the page
pub cut_on_page : (rows columns : ℕ) (asked : Scroll) (w : Window) → window_clipped_to_page rows columns asked ≡ Some w → IsOnPage rows columns w
cut_on_page rows columns asked w e =
    let bottom = min (asked.bottom + 1) rows in
    let right = min (asked.right + 1) columns in
    let a = if_some (nat_lt asked.top bottom && nat_lt asked.left right) _ w e in
    let b = both_true (nat_lt asked.top bottom) (nat_lt asked.left right) a.0 in
    let above = lt_is asked.top bottom b.0 in
    let before = lt_is asked.left right b.1 in
    let top = ap (λ (x : Window). x.top) a.1 in
    let height = ap (λ (x : Window). x.height) a.1 in
    let left = ap (λ (x : Window). x.left) a.1 in
    let width = ap (λ (x : Window). x.width) a.1 in
    record { below = omega arith; after = omega arith; some = omega arith }

-- a window moves by at least one row, and by no more rows than it has
pub few_lines : (w : Window) (asked : ℕ) → scroll_distance w asked ≤ w.height
few_lines w asked = by_tests (asked == 0) (nat_lt w.height asked) refl
  where
    by_tests : (a b : Bool) → nat_lt w.height asked ≡ b → (if a || b then w.height else asked) ≤ w.height
    by_tests true b q = omega arith
    by_tests false true q = omega arith
    by_tests false false q = grind (arith, nat_tests)

pub some_lines : (w : Window) (asked : ℕ) → 0 < w.height → 0 < scroll_distance w asked
some_lines w asked l = by_tests (asked == 0) (nat_lt w.height asked) refl
  where
    by_tests : (a b : Bool) → (asked == 0) ≡ a → 0 < (if a || b then w.height else asked)
    by_tests true b e = l
    by_tests false true e = l
    by_tests false false e = grind (arith, nat_tests)

-- ---- what lies in it

pub record IsInside (w : Window) (row column : ℕ) : Type 0 where
  pub above : w.top ≤ row
  pub below : row < w.top + w.height
  pub before : w.left ≤ column
  pub after : column < w.left + w.width

pub inside_of : (w : Window) (row column : ℕ) → is_in_window w row column ≡ true → IsInside w row column
inside_of w row column t =
    let b = both_true (nat_le w.top row) _ t in
    let e = both_true (nat_lt row (w.top + w.height)) _ b.1 in
    let g = both_true (nat_le w.left column) (nat_lt column (w.left + w.width)) e.1 in
    record {
      above = le_is w.top row b.0;
      below = lt_is row (w.top + w.height) e.0;
      before = le_is w.left column g.0;
      after = lt_is column (w.left + w.width) g.1;
    }

pub inside_test : (w : Window) (row column : ℕ) → IsInside w row column → is_in_window w row column ≡ true
inside_test w row column i =
    both_are (nat_le w.top row) _ (le_test w.top row i.above)
    (both_are (nat_lt row (w.top + w.height)) _ (lt_test row (w.top + w.height) i.below)
    (both_are (nat_le w.left column) _ (le_test w.left column i.before) (lt_test column (w.left + w.width) i.after)))

pub contrary : {Y : Type 0} (b : Bool) → b ≡ true → b ≡ false → Y
contrary b t f = let e = sym t ∙ f in absurd (cc)

-- the contents of a cell after a window has moved, by the two tests on the cell
pub by_both_tests : {Y : Type 0} (inside moved : Bool) (new source blank old : Y) → (inside ≡ true → moved ≡ true → new ≡ source) →
    (inside ≡ true → moved ≡ false → new ≡ blank) → (inside ≡ false → new ≡ old) → new ≡ (if inside then (if moved then source else blank) else old)
by_both_tests true true new source blank old t b o = t refl refl
by_both_tests true false new source blank old t b o = b refl refl
by_both_tests false moved new source blank old t b o = o refl

-- ---- which of its rows get another row's contents, and which are new

-- the first of the rows that get another row's contents, when the window moves by n
abbrev pub first_moved : Direction → Window → ℕ → ℕ
first_moved Up w n = w.top
first_moved Down w n = w.top + n

-- the first of the new rows
abbrev pub first_new : Direction → Window → ℕ → ℕ
first_new direction w n = first_row_to_fill direction w.top (w.height - n)

pub record AreParts (direction : Direction) (w : Window) (n : ℕ) : Type 0 where
  pub moved_above : w.top ≤ first_moved direction w n
  pub moved_below : first_moved direction w n + (w.height - n) ≤ w.top + w.height
  pub new_above : w.top ≤ first_new direction w n
  pub new_below : first_new direction w n + n ≤ w.top + w.height
  pub apart : (row : ℕ) → first_moved direction w n ≤ row → row < first_moved direction w n + (w.height - n) → first_new direction w n ≤ row →
      row < first_new direction w n + n → ⊥
  pub is_moved : (row : ℕ) → w.top ≤ row → row < w.top + w.height → has_source_row direction w n row ≡ true →
      (first_moved direction w n ≤ row) × (row < first_moved direction w n + (w.height - n))
  pub is_new : (row : ℕ) → w.top ≤ row → row < w.top + w.height → has_source_row direction w n row ≡ false →
      (first_new direction w n ≤ row) × (row < first_new direction w n + n)

pub parts : (direction : Direction) (w : Window) (n : ℕ) → n ≤ w.height → AreParts direction w n
parts Up w n few = record {
  moved_above = omega arith;
  moved_below = omega arith;
  new_above = omega arith;
  new_below = omega arith;
  apart = λ row a b e f. omega arith;
  is_moved = λ row a b t. let l = lt_is (row + n) (w.top + w.height) t in (omega arith, omega arith);
  is_new = λ row a b t. let l = lt_not (row + n) (w.top + w.height) t in (omega arith, omega arith);
}
parts Down w n few = record {
  moved_above = omega arith;
  moved_below = omega arith;
  new_above = omega arith;
  new_below = omega arith;
  apart = λ row a b e f. omega arith;
  is_moved = λ row a b t. let l = le_is (w.top + n) row t in (omega arith, omega arith);
  is_new = λ row a b t. let l = le_not (w.top + n) row t in (omega arith, omega arith);
}
