-- A flat memory of cells, on any machine: what changes and moves of its cells leave.
use Rattle.std.proofs.Common.{◌≡◌, ◌≢◌, ℕ, ◌<◌, ◌≤◌, ⊎_elim, refl, sym, ap, ◌∙◌, arith, List, length, Bool, true, false}
use Rattle.std.specs.Prelude.{slice_index, slice_set, ◌==◌, ◌&&◌, if◌then◌else◌}
use Rattle.std.proofs.lemmas.Bool.{cases_eq}
use Rattle.std.proofs.lemmas.Bool.Decides.{nat_tests}
use Rattle.std.proofs.lemmas.List.{get_or-set_same, get_or-set_other}

-- a flat memory with another value in cell a
abbrev pub set_cell : {X : Type 0} → (ℕ → X) → ℕ → X → ℕ → X
set_cell m a v x = if x == a then v else m x

pub set_same : {X : Type 0} (m : ℕ → X) (a : ℕ) (v : X) (x : ℕ) → x ≡ a → set_cell m a v x ≡ v
set_same m a v x e = let t : (x == a) ≡ true = grind (arith, nat_tests) in ap (λ b. if b then v else m x) t

pub set_other : {X : Type 0} (m : ℕ → X) (a : ℕ) (v : X) (x : ℕ) → x ≢ a → set_cell m a v x ≡ m x
set_other m a v x e = let t : (x == a) ≡ false = grind (arith, nat_tests) in ap (λ b. if b then v else m x) t

-- a list in which one element may be replaced, element by element
pub list_put : (t : Bool) (l : List ℕ) (a v o : ℕ) → a < length l →
    slice_index (if t then slice_set l a v else l) o ≡ (if t && (o == a) then v else slice_index l o)
list_put true l a v o h = ⊎_elim
    (λ (e : o ≡ a). ap (slice_index (slice_set l a v)) e ∙ get_or-set_same l a v 0 h ∙ sym (set_same (slice_index l) a v o e))
    (λ (n : o ≢ a). get_or-set_other l a o v 0 n ∙ sym (set_other (slice_index l) a v o n))
    (cases_eq o a)
list_put false l a v o h = refl

-- each cell `at h` is F h of what cell `from h` was, and no other cell has changed
pub record Changed (X H : Type 0) (from at : H → ℕ) (F : H → X → X) (old new : ℕ → X) : Type 0 where
  pub inside : (h : H) → new (at h) ≡ F h (old (from h))
  pub outside : (x : ℕ) → ((h : H) → x ≢ at h) → new x ≡ old x

-- each cell `at h` was changed by F h
abbrev pub Edited : (X H : Type 0) → (H → ℕ) → (H → X → X) → (ℕ → X) → (ℕ → X) → Type 0
Edited X H at F = Changed X H at at F

-- each cell `to h` contains what cell `from h` contained
abbrev pub Moved : (X H : Type 0) → (H → ℕ) → (H → ℕ) → (ℕ → X) → (ℕ → X) → Type 0
Moved X H from to = Changed X H from to (λ _ x. x)

-- one of the turns from i on, before e, and a cell that it changes
pub record Turn (H : ℕ → Type 0) (i e : ℕ) : Type 0 where
  pub turn : ℕ
  pub from : i ≤ turn
  pub before : turn < e
  pub place : H turn

-- what a plan leaves: a state that shows some cells, and a fact about these cells
pub record Leaves (S X : Type 0) (R : S → (ℕ → X) → Type 0) (s : S) (P : (ℕ → X) → Type 0) : Type 0 where
  pub cells : ℕ → X
  pub shown : R s cells
  pub fact : P cells
