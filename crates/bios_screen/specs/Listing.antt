-- Lists whose elements a function gives by their numbers.
use Rattle.std.specs.Prelude.{ℕ, zero, suc, ◌+◌, List, [], ◌∷◌}

-- the list of f i, f (i + 1) and so on, of n elements
abbrev pub list_by_function : {A : Type 0} → (ℕ → A) → ℕ → ℕ → List A
list_by_function f i zero = []
list_by_function f i (suc n) = f i ∷ list_by_function f (i + 1) n
