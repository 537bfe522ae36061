-- A byte is known by its eight bits, and the bits of what the operations on bytes give.
use Rattle.std.proofs.Common.{◌&&◌, ◌≡◌, refl, ℕ, ◌+◌, ◌-◌, ◌*◌, ◌/◌, ◌%◌, ◌^◌, ◌<◌, ◌≤◌, arith, sym, ap, ◌∙◌, inl, inr, add-zero, bit_and, bit_or, w8}
use Rattle.std.proofs.lemmas.Bool.{cases_lt}
use Rattle.std.proofs.lemmas.Bool.Decides.{nat_tests}
use Rattle.std.specs.Int.{bit_at, rotate_right}
use Rattle.std.proofs.lemmas.Nat.Bits.{ones_shr, bit_at_or, bit_at_and, bit_at-lt, bit_at-zero, bit_at_ones, bit_at_above, bit_at_cat_low, bit_at_cat_high}
use Rattle.std.proofs.lemmas.Nat.{and_mask, shr-shr, pow_pos, div-add-mod'}
use Rattle.vga_bits.specs.Bits.{byte_of_bits, is_set}

-- a byte whose bits are given is the byte of them
pub byte_from_bits : (b : ℕ) (f : ℕ → ℕ) → b < 256 → ((i : ℕ) → i < 8 → bit_at b i ≡ f i) → b ≡ byte_of_bits f
unfolding byte_of_bits
byte_from_bits b f fits bits =
    let e0 = bits 0 (omega arith) in
    let e1 = bits 1 (omega arith) in
    let e2 = bits 2 (omega arith) in
    let e3 = bits 3 (omega arith) in
    let e4 = bits 4 (omega arith) in
    let e5 = bits 5 (omega arith) in
    let e6 = bits 6 (omega arith) in
    let e7 = bits 7 (omega arith) in
    omega arith

-- a byte is the byte of its bits
pub byte_bits : (b : ℕ) → b < 256 → byte_of_bits (bit_at b) ≡ b
byte_bits b fits = sym (byte_from_bits b (bit_at b) fits (λ i within. refl))

-- eight bits make a byte
pub byte_small : (f : ℕ → ℕ) → ((i : ℕ) → f i < 2) → byte_of_bits f < 256
unfolding byte_of_bits
byte_small f bits =
    let b0 = bits 0 in
    let b1 = bits 1 in
    let b2 = bits 2 in
    let b3 = bits 3 in
    let b4 = bits 4 in
    let b5 = bits 5 in
    let b6 = bits 6 in
    let b7 = bits 7 in
    omega arith

-- 255 shifted right by 7 less a field's width is a mask of the width
pub field_mask : (n hi lo : ℕ) → lo ≤ hi → hi < 8 → bit_and n (255 / 2 ^ (7 - (hi - lo))) ≡ n % 2 ^ (hi + 1 - lo)
field_mask n hi lo low high =
    let within : 7 - (hi - lo) ≤ 8 = omega arith in
    let width : 8 - (7 - (hi - lo)) ≡ hi + 1 - lo = omega arith in
    ap (λ m. bit_and n m) (ones_shr 8 (7 - (hi - lo)) within) ∙ and_mask n (8 - (7 - (hi - lo))) ∙ ap (λ k. n % 2 ^ k) width

-- each bit of 255 is 1
pub ones_byte : (i : ℕ) → i < 8 → bit_at 255 i ≡ 1
ones_byte i within = bit_at_ones 8 i within

-- whether a bit is set in both of two numbers
pub is_set_and : (a b i : ℕ) → is_set (bit_and a b) i ≡ (is_set a i && is_set b i)
is_set_and a b i =
    let both = bit_at_and a b i in
    let bit_a = bit_at-lt a i in
    let bit_b = bit_at-lt b i in
    grind (arith, nat_tests)

-- ---- rotation

-- the low bits of a number cut to w bits
pub bit_at_cut : (x w i : ℕ) → i < w → bit_at (x % 2 ^ w) i ≡ bit_at x i
bit_at_cut x w i within = sym (bit_at_cat_low (x / 2 ^ w) w (x % 2 ^ w) i within) ∙ ap (λ y. bit_at y i) (div-add-mod' x (2 ^ w))

-- a number shifted left by k has k bits 0, and then its own
bit_at_shl_low : (x k i : ℕ) → i < k → bit_at (x * 2 ^ k) i ≡ 0
bit_at_shl_low x k i below = ap (λ y. bit_at y i) (sym (add-zero (x * 2 ^ k))) ∙ bit_at_cat_low x k 0 i below ∙ bit_at-zero i

bit_at_shl_high : (x k i : ℕ) → k ≤ i → bit_at (x * 2 ^ k) i ≡ bit_at x (i - k)
bit_at_shl_high x k i above = ap (λ y. bit_at y i) (sym (add-zero (x * 2 ^ k))) ∙ bit_at_cat_high x k 0 i (pow_pos k) above

-- a number shifted right
pub bit_at_shr : (x n i : ℕ) → bit_at (x / 2 ^ n) i ≡ bit_at x (n + i)
bit_at_shr x n i = ap (λ y. y % 2) (shr-shr x n i)

-- a byte rotated right by n places, k short of all eight
abbrev turned : ℕ → ℕ → ℕ → ℕ
turned v n k = bit_or (v / 2 ^ n) (v * 2 ^ k % 2 ^ 8)

bit_at_turned_low : (v n k i : ℕ) → n + k ≡ 8 → i < k → bit_at (turned v n k) i ≡ bit_at v (i + n)
bit_at_turned_low v n k i all below =
    let either = bit_at_or (v / 2 ^ n) (v * 2 ^ k % 2 ^ 8) i in
    let place : n + i ≡ i + n = omega arith in
    let shifted : bit_at (v / 2 ^ n) i ≡ bit_at v (i + n) = bit_at_shr v n i ∙ ap (bit_at v) place in
    let cleared : bit_at (v * 2 ^ k % 2 ^ 8) i ≡ 0 = bit_at_cut (v * 2 ^ k) 8 i (omega arith) ∙ bit_at_shl_low v k i below in
    omega arith

bit_at_turned_high : (v n k i : ℕ) → v < 256 → n + k ≡ 8 → k ≤ i → i < 8 → bit_at (turned v n k) i ≡ bit_at v (i - k)
bit_at_turned_high v n k i fits all above within =
    let either = bit_at_or (v / 2 ^ n) (v * 2 ^ k % 2 ^ 8) i in
    let cleared : bit_at (v / 2 ^ n) i ≡ 0 = bit_at_shr v n i ∙ bit_at_above v 8 (n + i) fits (omega arith) in
    let shifted : bit_at (v * 2 ^ k % 2 ^ 8) i ≡ bit_at v (i - k) = bit_at_cut (v * 2 ^ k) 8 i within ∙ bit_at_shl_high v k i above in
    omega arith

bit_at_turned : (v n k i : ℕ) → v < 256 → n + k ≡ 8 → i < 8 → bit_at (turned v n k) i ≡ bit_at v ((i + n) % 8)
bit_at_turned v n k i fits all within = elim (cases_lt i k) [
  | inl below ↦ bit_at_turned_low v n k i all below ∙ ap (bit_at v) (omega arith)
  | inr above ↦ bit_at_turned_high v n k i fits all above within ∙ ap (bit_at v) (omega arith)
]

-- the bits of `v.rotate_right(n)`
pub bit_at_rotate : (v n : ℕ) → v < 256 → n < 8 → (i : ℕ) → i < 8 → bit_at (rotate_right w8 v n) i ≡ bit_at v ((i + n) % 8)
bit_at_rotate v n fits few i within = elim (cases_lt 0 n) [
  | inl some ↦
      let count : n % 8 ≡ n = omega arith in
      let left : (8 - n % 8) % 8 ≡ 8 - n = omega arith in
      (λ j. bit_at (turned v (count j) (left j)) i) ∙ bit_at_turned v n (8 - n) i fits (omega arith) within
  | inr none ↦
      let count : n ≡ 0 = omega arith in
      let right : v / 2 ^ 0 ≡ v = omega arith in
      let left : v * 2 ^ 0 % 2 ^ 8 ≡ v = omega arith in
      let place : i ≡ (i + n) % 8 = omega arith in
      let twice : bit_at (bit_or v v) i ≡ bit_at v i = omega (arith, bit_at_or v v i) in
      (λ j. bit_at (rotate_right w8 v (count j)) i) ∙ (λ j. bit_at (bit_or (right j) (left j)) i) ∙ twice ∙ ap (bit_at v) place
]
