-- Where pages and rows begin among the cells: products of unknown numbers.
use Rattle.std.proofs.Common.{◌≡◌, ℕ, ◌+◌, ◌*◌, ◌/◌, ◌%◌, ◌<◌, ◌≤◌, ⊎_elim, ap, ◌∙◌, arith}
use Rattle.std.proofs.lemmas.Bool.{cases_lt}
use Rattle.std.proofs.lemmas.Nat.{mul-le, column_fits}

-- twice a product of two numbers
pub twice : (h p : ℕ) → 2 * h * p ≡ 2 * (h * p)
twice h p = omega arith

-- a page, or a row, ends before a later one begins
pub ends_before : (a j p : ℕ) → j < p → a * j + a ≤ a * p
ends_before a j p l = column_fits a j a p l (omega arith)

-- half of the offset at which page p begins, if a page has twice as many bytes as cells
pub half_start : (size half p : ℕ) → size ≡ 2 * half → size * p / 2 ≡ half * p
half_start size half p e = let z = twice half p in ap (λ n. n * p / 2) e ∙ ap (λ n. n / 2) z ∙ halved (half * p)
  where
    halved : (n : ℕ) → 2 * n / 2 ≡ n
    halved n = omega arith

-- the cell number of a position is at most 20655, in rows of at most 80 columns
pub few_cells : (columns place : ℕ) → columns ≤ 80 → place < 65536 → columns * (place / 256) + place % 256 ≤ 20655
few_cells columns place l h = let m = mul-le columns (place / 256) 80 255 l (omega arith) in omega arith

-- in rows of width `w`, two positions have the same number only if rows and columns agree
pub same_place : (w r c s e : ℕ) → c < w → e < w → w * r + c ≡ w * s + e → (r ≡ s) × (c ≡ e)
same_place w r c s e lc le h = ⊎_elim
    (λ (l : r < s). let z = ends_before w r s l in absurd (omega arith))
    (λ (l : s ≤ r). ⊎_elim
    (λ (k : s < r). let z = ends_before w s r k in absurd (omega arith))
    (λ (k : r ≤ s). let q : r ≡ s = omega arith in let z : w * r ≡ w * s = ap (λ n. w * n) q in (q, omega arith))
    (cases_lt s r))
    (cases_lt r s)

-- the start of the row n rows below
pub rows_further : (w r n : ℕ) → w * (r + n) ≡ w * r + w * n
rows_further w r n = omega arith

-- a number is given by its row and its column
pub row_and_column : (w q : ℕ) → 0 < w → w * (q / w) + q % w ≡ q
row_and_column w q l = omega arith
