-- Taking the first of some steps, one after another.
use Rattle.std.proofs.Common.{◌≡◌, ℕ, zero, suc, ◌+◌, ◌<◌, ◌≤◌, List, [], ◌∷◌, length, get_or, take, drop, arith, add-one, sym}
use Rattle.vga_script.specs.declared.step.Step.{Step}

-- the step that is taken after the first i, if these are fewer than `most`
pub record IsTaken (all left : List Step) (i most : ℕ) (step : Step) : Type 0 where
  pub within : i < length (take most all)
  pub below : i < length all
  pub is : step ≡ get_or (take most all) i step
  pub others : left ≡ drop (i + 1) all

-- it is step i of the first ones, and those after it are left
pub is_taken : (all left : List Step) (i most : ℕ) (step : Step) → i < most → drop i all ≡ step ∷ left → IsTaken all left i most step
is_taken [] left zero most step within e = absurd (cc)
is_taken [] left (suc i) most step within e = absurd (cc)
is_taken (s ∷ all) left i zero step within e = absurd (omega arith)
is_taken (s ∷ all) left zero (suc most) step within e =
    let first : s ≡ step = cc in
    let rest : all ≡ left = cc in
    record { within = omega arith; below = omega arith; is = sym first; others = sym rest }
is_taken (s ∷ all) left (suc i) (suc most) step within e =
    let h = is_taken all left i most step (omega arith) e in
    let within = h.within in
    let below = h.below in
    record { within = omega arith; below = omega arith; is = h.is; others = rw add-one (rw add-one at h.others) }

-- where none is after the first i, there are no more of the first ones
pub none_taken : (all : List Step) (i most : ℕ) → drop i all ≡ [] → length (take most all) ≤ i
none_taken [] i zero e = omega arith
none_taken [] i (suc most) e = omega arith
none_taken (s ∷ all) zero most e = absurd (cc)
none_taken (s ∷ all) (suc i) zero e = omega arith
none_taken (s ∷ all) (suc i) (suc most) e = let others = none_taken all i most e in omega arith

-- and there are never more than `most`
pub first_few : (all : List Step) (most : ℕ) → length (take most all) ≤ most
first_few all zero = omega arith
first_few [] (suc most) = omega arith
first_few (s ∷ all) (suc most) = let others = first_few all most in omega arith
