-- Two lists of parts that are spelled one after another at the prefix of one list, of bytes or of lines.
use Rattle.std.proofs.Common.{◌≡◌, ◌⊎◌, List, [], ◌∷◌, ◌++◌, refl, sym, ◌∙◌, append_assoc, inl, inr}
use Rattle.std.specs.List.{flat_map, AllByRecursion}

-- the second list goes on where the first ends, with a part that begins what follows the first
abbrev pub GoesOn : {A X : Type 0} → (A → List X) → (A → Type 0) → List A → List A → List X → List X → Type 0
GoesOn {A = A} spell Fits first second rest other =
    (next : A) × (others : List A) × (second ≡ first ++ next ∷ others) × Fits next × (rest ≡ spell next ++ (flat_map spell others ++ other))

-- the lists are one, and what follows them is, or one of them goes on
abbrev pub Compared : {A X : Type 0} → (A → List X) → (A → Type 0) → List A → List A → List X → List X → Type 0
Compared spell Fits first second rest other =
    ((first ≡ second) × (rest ≡ other)) ⊎ (GoesOn spell Fits first second rest other ⊎ GoesOn spell Fits second first other rest)

-- one more part before both
along : {A X : Type 0} (spell : A → List X) (Fits : A → Type 0) (s t : A) (first second : List A) (rest other : List X) → s ≡ t →
    Compared spell Fits first second rest other
    → Compared spell Fits (s ∷ first) (t ∷ second) rest other
along spell Fits s t first second rest other e (inl (same, follows)) = inl (cc, follows)
along spell Fits s t first second rest other e (inr (inl (next, others, is, fits, follows))) = inr (inl (next, others, cc, fits, follows))
along spell Fits s t first second rest other e (inr (inr (next, others, is, fits, follows))) = inr (inr (next, others, cc, fits, follows))

-- if the prefix of a list determines which part it spells, any two lists of parts compare
pub compare : {A X : Type 0} (spell : A → List X) (Fits : A → Type 0) (one : (s t : A) (x y : List X) → Fits s → Fits t → spell s ++ x ≡ spell t ++ y → (s ≡ t)
    × (x ≡ y))
    (first second : List A) (rest other : List X) → AllByRecursion Fits first → AllByRecursion Fits second → flat_map spell first
    ++ rest ≡ flat_map spell second ++ other
    → Compared spell Fits first second rest other
compare spell Fits one [] [] rest other all all' e = inl (refl, e)
compare spell Fits one [] (t ∷ second) rest other all (fits, all') e =
    inr (inl (t, second, refl, fits, e ∙ append_assoc (spell t) (flat_map spell second) other))
compare spell Fits one (s ∷ first) [] rest other (fits, all) all' e =
    inr (inr (s, first, refl, fits, sym e ∙ append_assoc (spell s) (flat_map spell first) rest))
compare spell Fits one (s ∷ first) (t ∷ second) rest other (fits, all) (fits', all') e =
    let same = one s t (flat_map spell first ++ rest) (flat_map spell second ++ other) fits fits'
    (sym (append_assoc (spell s) (flat_map spell first) rest) ∙ e ∙ append_assoc (spell t) (flat_map spell second) other) in
    along spell Fits s t first second rest other same.0 (compare spell Fits one first second rest other all all' same.1)
