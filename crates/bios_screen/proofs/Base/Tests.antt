-- What Boolean tests imply, and what implies them.
use Rattle.std.proofs.Common.{◌≡◌, ◌≢◌, ℕ, ◌+◌, ◌<◌, ◌≤◌, refl, ap, ◌∙◌, arith, Bool, true, false, Some, None}
use Rattle.std.specs.Prelude.{◌==◌, ◌&&◌, nat_lt, nat_le, if◌then◌else◌}
use Rattle.std.proofs.lemmas.Bool.Decides.{nat_tests}

pub both_true : (a b : Bool) → (a && b) ≡ true → (a ≡ true) × (b ≡ true)
both_true true b h = (refl, h)
both_true false b h = absurd (cc)

pub both_are : (a b : Bool) → a ≡ true → b ≡ true → (a && b) ≡ true
both_are a b g h = ap (λ x. x && b) g ∙ h

pub if_some : {Y : Type 0} (b : Bool) (x y : Y) → (if b then Some x else None) ≡ Some y → (b ≡ true) × (x ≡ y)
if_some true x y h = (refl, cc)
if_some false x y h = absurd (cc)

pub none_some : {Y Z : Type 0} (y : Y) → None ≡ Some y → Z
none_some y h = absurd (cc)

pub some_same : {Y : Type 0} (x y : Y) → Some x ≡ Some y → x ≡ y
some_same x y h = cc

pub same : {x y : ℕ} → (x == y) ≡ true → x ≡ y
same {x} {y} e = grind (arith, nat_tests)

pub lt_is : (a b : ℕ) → nat_lt a b ≡ true → a < b
lt_is a b h = grind (arith, nat_tests)

pub le_is : (a b : ℕ) → nat_le a b ≡ true → a ≤ b
le_is a b h = grind (arith, nat_tests)

pub lt_not : (a b : ℕ) → nat_lt a b ≡ false → b ≤ a
lt_not a b h = grind (arith, nat_tests)

pub le_not : (a b : ℕ) → nat_le a b ≡ false → b < a
le_not a b h = grind (arith, nat_tests)

pub lt_test : (a b : ℕ) → a < b → nat_lt a b ≡ true
lt_test a b h = grind (arith, nat_tests)

pub le_test : (a b : ℕ) → a ≤ b → nat_le a b ≡ true
le_test a b h = grind (arith, nat_tests)

pub not_lt : (a b : ℕ) → b ≤ a → nat_lt a b ≡ false
not_lt a b m = grind (arith, nat_tests)

pub not_le : (a b : ℕ) → b < a → nat_le a b ≡ false
not_le a b m = grind (arith, nat_tests)

-- one value for the numbers of a run, and another for those before and after it
pub of_run : {Y : Type 0} (first count k : ℕ) (r x y : Y) → (first ≤ k → k < first + count → r ≡ x)
    → (((j : ℕ) → j < count → k ≢ first + j) → r ≡ y) → r ≡ (if nat_le first k && nat_lt k (first + count) then x else y)
of_run first count k r x y inside outside = by_tests (nat_le first k) (nat_lt k (first + count)) refl refl
  where
    by_tests : (a b : Bool) → nat_le first k ≡ a → nat_lt k (first + count) ≡ b → r ≡ (if a && b then x else y)
    by_tests true true e g = inside (le_is first k e) (lt_is k (first + count) g)
    by_tests true false e g = outside (λ j l same. let t = lt_test k (first + count) (omega arith) in cc)
    by_tests false b e g = outside (λ j l same. let t = le_test first k (omega arith) in cc)
