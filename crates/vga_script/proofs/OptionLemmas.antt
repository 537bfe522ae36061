-- Values that may not be there, and tests.
use Rattle.std.proofs.Common.{◌≡◌, ℕ, ◌<◌, ◌≤◌, Bool, true, false, cond, ◌&&◌, nat_le, nat_lt, Option, Some, None, refl, sym, ◌∙◌, arith}
use Rattle.std.proofs.lemmas.Bool.Decides.{nat_tests}
use Rattle.vga_script.specs.StepReading.{◌>>=◌}

-- the value of a step that did not fail
pub bind_ok : {A B : Type 0} (r : Option A) (f : A → Option B) (y : B) → (r >>= f) ≡ Some y → (x : A) × (r ≡ Some x) × (f x ≡ Some y)
bind_ok (Some x) f y e = (x, refl, e)
bind_ok None f y e = absurd (cc)

-- a test that did not fail
pub guard_ok : {A : Type 0} (b : Bool) (r : Option A) (y : A) → cond b r None ≡ Some y → (b ≡ true) × (r ≡ Some y)
guard_ok true r y e = (refl, e)
guard_ok false r y e = absurd (cc)

-- two tests that pass
pub and_ok : (a b : Bool) → (a && b) ≡ true → (a ≡ true) × (b ≡ true)
and_ok true b e = (refl, e)
and_ok false b e = absurd (cc)

pub and_true : (a b : Bool) → a ≡ true → b ≡ true → (a && b) ≡ true
and_true true b p q = q
and_true false b p q = absurd (cc)

-- a test of an order is the order
pub le_test : (a b : ℕ) → nat_le a b ≡ true → a ≤ b
le_test a b e = grind (arith, nat_tests)

pub le_passes : (a b : ℕ) → a ≤ b → nat_le a b ≡ true
le_passes a b e = grind (arith, nat_tests)

pub lt_test : (a b : ℕ) → nat_lt a b ≡ true → a < b
lt_test a b e = grind (arith, nat_tests)

pub lt_passes : (a b : ℕ) → a < b → nat_lt a b ≡ true
lt_passes a b e = grind (arith, nat_tests)

-- a value that is there
abbrev pub just : {A : Type 0} → A → Option A
just x = Some x

-- two values that are there and equal
pub some_is : {A : Type 0} (x y : A) → just x ≡ just y → x ≡ y
some_is x y e = cc

-- a value is there or not
pub not_both : {A : Type 0} (r : Option A) (x : A) → r ≡ just x → r ≡ None → ⊥
not_both r x some none = let both : just x ≡ None = sym some ∙ none in absurd (cc)
