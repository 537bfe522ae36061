-- Lanes of 16 bits in a word.
use Rattle.std.proofs.Common.{◌≡◌, ◌∙◌, ◌+◌, ◌*◌, ◌/◌, ◌^◌, ◌<◌, ◌≤◌, ℕ, zero, suc, ap, refl, sym, arith}
use Rattle.std.proofs.Common.{bit_and, min}
use Rattle.std.specs.Int.{bit_at}
use Rattle.std.proofs.lemmas.Nat.Bits.{bit_at-zero}
use Rattle.vga_bits.specs.Words.{plane_byte_in_word, plane_bit_in_word}
use Rattle.vga_bits.proofs.BitLemmas.{byte_from_bits, byte_bits, ones_byte}
use Rattle.vga_bits.proofs.WordLemmas.{byte_below, word_bit_byte, word_bit_lt, word_bit_and}
use Rattle.vga_c.specs.declared.lane_sums.LaneSums.{LaneSums}
use Rattle.vga_c.specs.LaneSums.{lane, AreLanesOfBytes, sum_of_lanes, sum_of_sums_of_lanes, sum_of_word}

-- lane by lane, a sum without a carry
pub lanes_added : (a b : ℕ) → a < 2 ^ 64 → b < 2 ^ 64 → ((k : ℕ) → k < 4 → lane k a + lane k b < 65536) → (k : ℕ) → k < 4 → lane k (a + b) ≡ lane k a + lane k b
lanes_added a b fa fb room zero l = let r0 = room 0 (omega arith) in omega (arith, r0)
lanes_added a b fa fb room (suc zero) l =
    let r0 = room 0 (omega arith) in
    let r1 = room 1 (omega arith) in
    omega (arith, r0, r1)
lanes_added a b fa fb room (suc (suc zero)) l =
    let r0 = room 0 (omega arith) in
    let r1 = room 1 (omega arith) in
    let r2 = room 2 (omega arith) in
    omega (arith, r0, r1, r2)
lanes_added a b fa fb room (suc (suc (suc zero))) l =
    let r0 = room 0 (omega arith) in
    let r1 = room 1 (omega arith) in
    let r2 = room 2 (omega arith) in
    let r3 = room 3 (omega arith) in
    omega (arith, r0, r1, r2, r3)
lanes_added a b fa fb room (suc (suc (suc (suc k)))) l = absurd (omega arith)

-- ---- the bytes that a mask keeps

-- two numbers with the same bits in a byte have the same byte
same_byte : (x y p : ℕ) → ((i : ℕ) → i < 8 → plane_bit_in_word x p i ≡ plane_bit_in_word y p i) → plane_byte_in_word p x ≡ plane_byte_in_word p y
same_byte x y p same =
    byte_from_bits (plane_byte_in_word p x) (bit_at (plane_byte_in_word p y)) (byte_below p x) (λ i l. sym (word_bit_byte x p i l) ∙ same i l ∙ word_bit_byte y p i l)
    ∙ byte_bits (plane_byte_in_word p y) (byte_below p y)

kept_byte : (w m p : ℕ) → plane_byte_in_word p m ≡ 255 → plane_byte_in_word p (bit_and w m) ≡ plane_byte_in_word p w
kept_byte w m p e = same_byte (bit_and w m) w p
    (λ i l. let one : plane_bit_in_word m p i ≡ 1 = word_bit_byte m p i l ∙ ap (λ x. bit_at x i) e ∙ ones_byte i l in
    word_bit_and w m p i ∙ ap (min (plane_bit_in_word w p i)) one ∙ omega (arith, word_bit_lt w p i))

cleared_byte : (w m p : ℕ) → plane_byte_in_word p m ≡ 0 → plane_byte_in_word p 0 ≡ 0 → plane_byte_in_word p (bit_and w m) ≡ 0
cleared_byte w m p e nought = same_byte (bit_and w m) 0 p
    (λ i l. let none : plane_bit_in_word m p i ≡ 0 = word_bit_byte m p i l ∙ ap (λ x. bit_at x i) e ∙ bit_at-zero i in
    let other : plane_bit_in_word 0 p i ≡ 0 = word_bit_byte 0 p i l ∙ ap (λ x. bit_at x i) nought ∙ bit_at-zero i in
    word_bit_and w m p i ∙ ap (min (plane_bit_in_word w p i)) none ∙ omega arith ∙ sym other)
    ∙ nought

-- a lane has two bytes
two_bytes : (w k : ℕ) → k < 4 → lane k w ≡ plane_byte_in_word (2 * k) w + 256 * plane_byte_in_word (2 * k + 1) w
two_bytes w zero l = omega arith
two_bytes w (suc zero) l = omega arith
two_bytes w (suc (suc zero)) l = omega arith
two_bytes w (suc (suc (suc zero))) l = omega arith
two_bytes w (suc (suc (suc (suc k)))) l = absurd (omega arith)

pub even_byte_alone : (w k : ℕ) → k < 4 → lane k (bit_and w 0x00FF_00FF_00FF_00FF) ≡ plane_byte_in_word (2 * k) w
even_byte_alone w k l =
    let m : ℕ = 0x00FF_00FF_00FF_00FF in
    two_bytes (bit_and w m) k l ∙ (λ j. kept_byte w m (2 * k) (mask_even k l) j + 256 * cleared_byte w m (2 * k + 1) (mask_odd k l) (nought k l) j) ∙ omega arith
  where
    mask_even : (k : ℕ) → k < 4 → plane_byte_in_word (2 * k) 0x00FF_00FF_00FF_00FF ≡ 255
    mask_even zero l = refl
    mask_even (suc zero) l = refl
    mask_even (suc (suc zero)) l = refl
    mask_even (suc (suc (suc zero))) l = refl
    mask_even (suc (suc (suc (suc k)))) l = absurd (omega arith)

    mask_odd : (k : ℕ) → k < 4 → plane_byte_in_word (2 * k + 1) 0x00FF_00FF_00FF_00FF ≡ 0
    mask_odd zero l = refl
    mask_odd (suc zero) l = refl
    mask_odd (suc (suc zero)) l = refl
    mask_odd (suc (suc (suc zero))) l = refl
    mask_odd (suc (suc (suc (suc k)))) l = absurd (omega arith)

    nought : (k : ℕ) → k < 4 → plane_byte_in_word (2 * k + 1) 0 ≡ 0
    nought zero l = refl
    nought (suc zero) l = refl
    nought (suc (suc zero)) l = refl
    nought (suc (suc (suc zero))) l = refl
    nought (suc (suc (suc (suc k)))) l = absurd (omega arith)

pub byte_of_shifted : (w k : ℕ) → k < 4 → plane_byte_in_word (2 * k) (w / 2 ^ 8) ≡ plane_byte_in_word (2 * k + 1) w
byte_of_shifted w zero l = omega arith
byte_of_shifted w (suc zero) l = omega arith
byte_of_shifted w (suc (suc zero)) l = omega arith
byte_of_shifted w (suc (suc (suc zero))) l = omega arith
byte_of_shifted w (suc (suc (suc (suc k)))) l = absurd (omega arith)

-- ---- sums in lanes

nought_lane : (k : ℕ) → k < 4 → lane k 0 ≡ 0
nought_lane zero l = refl
nought_lane (suc zero) l = refl
nought_lane (suc (suc zero)) l = refl
nought_lane (suc (suc (suc zero))) l = refl
nought_lane (suc (suc (suc (suc k)))) l = absurd (omega arith)

abbrev no_sums : LaneSums
no_sums = record { even = 0; odd = 0; even_sums = 0; odd_sums = 0 }

pub no_bytes : AreLanesOfBytes 0 no_sums
no_bytes = record {
  even = λ k l. let e = nought_lane k l in omega (arith, e);
  odd = λ k l. let e = nought_lane k l in omega (arith, e);
  even_sums = λ k l. let e = nought_lane k l in omega (arith, e);
  odd_sums = λ k l. let e = nought_lane k l in omega (arith, e);
  even_order = λ k l. omega arith;
  odd_order = λ k l. omega arith;
}

-- what comes later in the words is less than what is added up after them
pub within_sums : (n : ℕ) (sums : LaneSums) → AreLanesOfBytes n sums
    → lane 0 sums.odd + 2 * lane 1 sums.even + 3 * lane 1 sums.odd + 4 * lane 2 sums.even + 5 * lane 2 sums.odd + 6 * lane 3 sums.even + 7 * lane 3 sums.odd
    ≤ 8 * (sum_of_word sums.even_sums + sum_of_word sums.odd_sums)
within_sums n sums are =
    let a1 = are.even_order 1 (omega arith) in
    let a2 = are.even_order 2 (omega arith) in
    let a3 = are.even_order 3 (omega arith) in
    let o0 = are.odd_order 0 (omega arith) in
    let o1 = are.odd_order 1 (omega arith) in
    let o2 = are.odd_order 2 (omega arith) in
    let o3 = are.odd_order 3 (omega arith) in
    omega (arith, a1, a2, a3, o0, o1, o2, o3)

module _ (n : ℕ) (old new : LaneSums) (b : ℕ → ℕ) (are : AreLanesOfBytes n old) (also : AreLanesOfBytes (n + 1) new)
    (even : (k : ℕ) → k < 4 → lane k new.even ≡ lane k old.even + b (2 * k))
    (odd : (k : ℕ) → k < 4 → lane k new.odd ≡ lane k old.odd + b (2 * k + 1))
    (even_sums : (k : ℕ) → k < 4 → lane k new.even_sums ≡ lane k old.even_sums + lane k new.even)
    (odd_sums : (k : ℕ) → k < 4 → lane k new.odd_sums ≡ lane k old.odd_sums + lane k new.odd) where
  pub sum_with_word : sum_of_lanes new ≡ sum_of_lanes old + (b 0 + b 1 + b 2 + b 3 + b 4 + b 5 + b 6 + b 7)
  sum_with_word =
      let e0 = even 0 (omega arith) in
      let e1 = even 1 (omega arith) in
      let e2 = even 2 (omega arith) in
      let e3 = even 3 (omega arith) in
      let o0 = odd 0 (omega arith) in
      let o1 = odd 1 (omega arith) in
      let o2 = odd 2 (omega arith) in
      let o3 = odd 3 (omega arith) in
      omega (arith, e0, e1, e2, e3, o0, o1, o2, o3)

  pub sums_with_word : sum_of_sums_of_lanes new ≡ sum_of_sums_of_lanes old + 8 * sum_of_lanes old
      + (8 * b 0 + 7 * b 1 + 6 * b 2 + 5 * b 3 + 4 * b 4 + 3 * b 5 + 2 * b 6 + b 7)
  sums_with_word =
      let e0 = even 0 (omega arith) in
      let e1 = even 1 (omega arith) in
      let e2 = even 2 (omega arith) in
      let e3 = even 3 (omega arith) in
      let o0 = odd 0 (omega arith) in
      let o1 = odd 1 (omega arith) in
      let o2 = odd 2 (omega arith) in
      let o3 = odd 3 (omega arith) in
      let s0 = even_sums 0 (omega arith) in
      let s1 = even_sums 1 (omega arith) in
      let s2 = even_sums 2 (omega arith) in
      let s3 = even_sums 3 (omega arith) in
      let r0 = odd_sums 0 (omega arith) in
      let r1 = odd_sums 1 (omega arith) in
      let r2 = odd_sums 2 (omega arith) in
      let r3 = odd_sums 3 (omega arith) in
      let before = within_sums n old are in
      let after = within_sums (n + 1) new also in
      omega (arith, e0, e1, e2, e3, o0, o1, o2, o3, s0, s1, s2, s3, r0, r1, r2, r3, before, after)
