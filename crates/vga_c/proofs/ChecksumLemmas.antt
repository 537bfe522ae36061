-- The two sums of Adler-32 may be reduced later.
use Rattle.std.proofs.Common.{◌≡◌, ◌∙◌, ◌+◌, ◌*◌, ◌%◌, ◌<◌, ◌≤◌, ◌++◌, ℕ, List, length, drop, ap, arith}
use Rattle.std.proofs.lemmas.List.{drop_all, drop_more}
use Rattle.std.specs.Prelude.{slice_index}
use Rattle.vga_c.specs.Checksum.{adler_from}

reduced_sum : (sum b : ℕ) → (sum % 65521 + b) % 65521 ≡ (sum + b) % 65521
reduced_sum sum b = omega arith

reduced_sums : (sum sums b : ℕ) → (sums % 65521 + (sum + b) % 65521) % 65521 ≡ (sums + (sum + b)) % 65521
reduced_sums sum sums b = omega arith

-- one byte more is added to both sums
pub one_added : (bytes rest : List ℕ) (i sum sums : ℕ) → i < length bytes → adler_from (sum % 65521) (sums % 65521) (drop i bytes ++ rest)
    ≡ adler_from ((sum + slice_index bytes i) % 65521) ((sums + (sum + slice_index bytes i)) % 65521) (drop (i + 1) bytes ++ rest)
unfolding adler_from
one_added bytes rest i sum sums within =
    let b = slice_index bytes i in
    let left = drop (i + 1) bytes ++ rest in
    ap (λ (l : List ℕ). adler_from (sum % 65521) (sums % 65521) (l ++ rest)) (drop_more bytes i 0 within)
    ∙ ap (λ (s : ℕ). adler_from s ((sums % 65521 + s) % 65521) left) (reduced_sum sum b)
    ∙ ap (λ (s : ℕ). adler_from ((sum + b) % 65521) s left) (reduced_sums sum sums b)

-- small sums are reduced
pub reduced : (sum sums : ℕ) (bytes : List ℕ) → sum < 65521 → sums < 65521 → adler_from sum sums bytes ≡ adler_from (sum % 65521) (sums % 65521) bytes
reduced sum sums bytes few fews =
    let e0 : sum ≡ sum % 65521 = omega (arith, few) in
    let e1 : sums ≡ sums % 65521 = omega (arith, fews) in
    λ j. adler_from (e0 j) (e1 j) bytes

-- no byte is left of the first list
pub none_left : (bytes rest : List ℕ) (i sum sums : ℕ) → length bytes ≤ i → adler_from (sum % 65521) (sums % 65521) (drop i bytes ++ rest)
    ≡ adler_from (sum % 65521) (sums % 65521) rest
none_left bytes rest i sum sums past = ap (λ (l : List ℕ). adler_from (sum % 65521) (sums % 65521) (l ++ rest)) (drop_all i bytes past)

-- eight bytes more
pub eight_added : (bytes rest : List ℕ) (i s t : ℕ) → i + 8 ≤ length bytes → adler_from (s % 65521) (t % 65521) (drop i bytes ++ rest)
    ≡ adler_from ((s + (slice_index bytes i + slice_index bytes (i + 1) + slice_index bytes (i + 2) + slice_index bytes (i + 3) + slice_index bytes (i + 4)
    + slice_index bytes (i + 5) + slice_index bytes (i + 6) + slice_index bytes (i + 7))) % 65521)
    ((t + 8 * s + (8 * slice_index bytes i + 7 * slice_index bytes (i + 1) + 6 * slice_index bytes (i + 2) + 5 * slice_index bytes (i + 3)
    + 4 * slice_index bytes (i + 4) + 3 * slice_index bytes (i + 5) + 2 * slice_index bytes (i + 6) + slice_index bytes (i + 7))) % 65521)
    (drop (i + 8) bytes ++ rest)
eight_added bytes rest i s t within =
    let two : (j u v : ℕ) → j + 2 ≤ length bytes → adler_from (u % 65521) (v % 65521) (drop j bytes ++ rest)
    ≡ adler_from ((u + (slice_index bytes j + slice_index bytes (j + 1))) % 65521)
    ((v + 2 * u + (2 * slice_index bytes j + slice_index bytes (j + 1))) % 65521) (drop (j + 2) bytes ++ rest) =
    λ j u v l. let place : j + 1 + 1 ≡ j + 2 = omega arith in
    let x = slice_index bytes j in
    let y = slice_index bytes (j + 1) in
    let e0 : u + x + y ≡ u + (x + y) = omega arith in
    let e1 : v + (u + x) + (u + x + y) ≡ v + 2 * u + (2 * x + y) = omega arith in
    one_added bytes rest j u v (omega (arith, l)) ∙ one_added bytes rest (j + 1) (u + x) (v + (u + x)) (omega (arith, l))
    ∙ (λ k. adler_from (e0 k % 65521) (e1 k % 65521) (drop (place k) bytes ++ rest)) in
    let x0 = slice_index bytes i in
    let x1 = slice_index bytes (i + 1) in
    let x2 = slice_index bytes (i + 2) in
    let x3 = slice_index bytes (i + 3) in
    let x4 = slice_index bytes (i + 4) in
    let x5 = slice_index bytes (i + 5) in
    let x6 = slice_index bytes (i + 6) in
    let x7 = slice_index bytes (i + 7) in
    let p3 : i + 2 + 1 ≡ i + 3 = omega arith in
    let p5 : i + 4 + 1 ≡ i + 5 = omega arith in
    let p7 : i + 6 + 1 ≡ i + 7 = omega arith in
    let p4 : i + 2 + 2 ≡ i + 4 = omega arith in
    let p6 : i + 4 + 2 ≡ i + 6 = omega arith in
    let p8 : i + 6 + 2 ≡ i + 8 = omega arith in
    let s2 = s + (x0 + x1) in
    let t2 = t + 2 * s + (2 * x0 + x1) in
    let s4 = s2 + (x2 + x3) in
    let t4 = t2 + 2 * s2 + (2 * x2 + x3) in
    let s6 = s4 + (x4 + x5) in
    let t6 = t4 + 2 * s4 + (2 * x4 + x5) in
    let e0 : s6 + (x6 + x7) ≡ s + (x0 + x1 + x2 + x3 + x4 + x5 + x6 + x7) = omega arith in
    let e1 : t6 + 2 * s6 + (2 * x6 + x7) ≡ t + 8 * s + (8 * x0 + 7 * x1 + 6 * x2 + 5 * x3 + 4 * x4 + 3 * x5 + 2 * x6 + x7) = omega arith in
    two i s t (omega (arith, within))
    ∙ two (i + 2) s2 t2 (omega (arith, within))
    ∙ (λ k. adler_from ((s2 + (x2 + slice_index bytes (p3 k))) % 65521) ((t2 + 2 * s2 + (2 * x2 + slice_index bytes (p3 k))) % 65521) (drop (p4 k) bytes ++ rest))
    ∙ two (i + 4) s4 t4 (omega (arith, within))
    ∙ (λ k. adler_from ((s4 + (x4 + slice_index bytes (p5 k))) % 65521) ((t4 + 2 * s4 + (2 * x4 + slice_index bytes (p5 k))) % 65521) (drop (p6 k) bytes ++ rest))
    ∙ two (i + 6) s6 t6 (omega (arith, within))
    ∙ (λ k. adler_from ((s6 + (x6 + slice_index bytes (p7 k))) % 65521) ((t6 + 2 * s6 + (2 * x6 + slice_index bytes (p7 k))) % 65521) (drop (p8 k) bytes ++ rest))
    ∙ (λ k. adler_from (e0 k % 65521) (e1 k % 65521) (drop (i + 8) bytes ++ rest))
