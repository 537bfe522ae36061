-- The lines of a text, one after the other.
use Rattle.std.proofs.Common.{◌≡◌, ℕ, ◌<◌, ◌-◌, List, ◌∷◌, slice_get, zero, suc, ap, ◌∙◌, arith}

-- a line after the first one of some lines, counted from the second
pub next_line : (ls : List (List ℕ)) (line : List ℕ) (others : List (List ℕ)) (n : ℕ) → ls ≡ line ∷ others → 0 < n →
    slice_get ls n ≡ slice_get others (n - 1)
next_line ls line others zero whole some = absurd (omega arith)
next_line ls line others (suc n) whole some =
    let before : n ≡ suc n - 1 = omega arith in
    ap (λ (xs : List (List ℕ)). slice_get xs (suc n)) whole ∙ ap (λ (k : ℕ). slice_get others k) before
