-- Registers hold bits of their masks alone.
use Rattle.std.proofs.Common.{◌≡◌, ◌<◌, ℕ, zero, suc, true, List, [], ◌∷◌, length, inl, inr, arith, ap, sym, ◌∙◌, replicate}
use Rattle.std.specs.Prelude.{slice_index, slice_set, nat_lt, bit_and}
use Rattle.std.specs.Int.Bits.{and_self, and_zero_l}
use Rattle.std.proofs.lemmas.Bool.{agree_below, agree_below_at, cases_lt, ltb-true}
use Rattle.std.proofs.lemmas.List.{get_or_past}
use Rattle.std.proofs.lemmas.Nat.{and_assoc, and_le_r}
use Rattle.vga_bits.specs.Bytes.{zeros}
use Rattle.vga_bits.specs.RegFile.{AreWithinMasks}
use Rattle.vga_bits.proofs.ByteLemmas.{zeros_at}

pub kept_zeros : (masks : List ℕ) (n : ℕ) → AreWithinMasks masks (replicate n 0)
unfolding zeros
kept_zeros masks n = record {
  kept = λ i. ap (λ v. bit_and v (slice_index masks i)) (zeros_at n i) ∙ and_zero_l (slice_index masks i) ∙ sym (zeros_at n i);
}

-- a mask masks once
pub masked_twice : (v m : ℕ) → bit_and (bit_and v m) m ≡ bit_and v m
masked_twice v m = and_assoc m v m ∙ ap (bit_and v) (and_self m)

kept_at : (masks values : List ℕ) (i v j : ℕ) → bit_and (slice_index values j) (slice_index masks j) ≡ slice_index values j
    → bit_and (slice_index (slice_set values i (bit_and v (slice_index masks i))) j) (slice_index masks j)
    ≡ slice_index (slice_set values i (bit_and v (slice_index masks i))) j
kept_at masks [] i v j e = e
kept_at [] (x ∷ values) zero v zero e = masked_twice v 0
kept_at (m ∷ masks) (x ∷ values) zero v zero e = masked_twice v m
kept_at masks (x ∷ values) zero v (suc j) e = e
kept_at masks (x ∷ values) (suc i) v zero e = e
kept_at [] (x ∷ values) (suc i) v (suc j) e = kept_at [] values i v j e
kept_at (m ∷ masks) (x ∷ values) (suc i) v (suc j) e = kept_at masks values i v j e

-- a register that is written keeps its bits of the value
pub kept_set : (masks values : List ℕ) (i v : ℕ) → AreWithinMasks masks values → AreWithinMasks masks (slice_set values i (bit_and v (slice_index masks i)))
kept_set masks values i v are = record { kept = λ j. kept_at masks values i v j (are.kept j) }

-- the first n registers are below a bound that all their masks are below
pub kept_below : (masks values : List ℕ) (n bound : ℕ) → AreWithinMasks masks values → agree_below (λ k. nat_lt (slice_index masks k) bound) (λ k. true) n ≡ true
    → (i : ℕ) → i < n → slice_index values i < bound
kept_below masks values n bound are below i within =
    let small = ltb-true (slice_index masks i) bound (agree_below_at (λ k. nat_lt (slice_index masks k) bound) (λ k. true) n i below within) in
    omega (arith, are.kept i, and_le_r (slice_index values i) (slice_index masks i), small)

-- registers hold bits of their masks, where each that is there does
pub kept_within : (masks values : List ℕ) → ((k : ℕ) → k < length values → bit_and (slice_index values k) (slice_index masks k) ≡ slice_index values k)
    → AreWithinMasks masks values
kept_within masks values kept = record {
  kept = λ k. elim (cases_lt k (length values)) [
    | inl within ↦ kept k within
    | inr past ↦ ap (λ v. bit_and v (slice_index masks k)) (get_or_past values k 0 past) ∙ and_zero_l (slice_index masks k) ∙ sym (get_or_past values k 0 past)
  ];
}
