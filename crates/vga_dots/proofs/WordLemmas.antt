-- A bit of each plane of a word, brought together.
use Rattle.std.proofs.Common.{◌≡◌, ℕ, zero, suc, ◌+◌, ◌*◌, ◌/◌, ◌%◌, ◌^◌, ◌<◌, arith, refl, sym, ap, ap₂, ◌∙◌, bit_and, min}
use Rattle.std.specs.Int.{bit_at}
use Rattle.std.proofs.lemmas.Bool.Decides.{nat_tests}
use Rattle.std.specs.Int.Bits.{and_zero_r}
use Rattle.std.proofs.lemmas.Nat.{and_le_r, and_block, div-add-mod', mod_below, pow_pos}
use Rattle.std.proofs.lemmas.Nat.Bits.{bit_at-zero, bit_at-suc}
use Rattle.vga_bits.specs.Bits.{byte_of_bits}
use Rattle.vga_bits.specs.Words.{plane_byte_in_word, plane_bit_in_word}
use Rattle.vga_dots.specs.Row.{plane_bits_in_word}
use Rattle.vga_bits.proofs.BitLemmas.{byte_from_bits, bit_at_shr}
use Rattle.vga_bits.proofs.WordLemmas.{byte_below, word_bit_byte, word_bit_and, word_bit_lt, word_bit_spread}

min_one : (b m : ℕ) → b < 2 → m ≡ 1 → min b m ≡ b
min_one b m small e = grind (arith, nat_tests)

min_none : (b m : ℕ) → m ≡ 0 → min b m ≡ 0
min_none b m e = grind (arith, nat_tests)

-- a byte that has its lowest bit alone
alone : ℕ → ℕ → ℕ
alone b zero = b
alone b (suc i) = 0

-- each byte of `x & 01010101` is its lowest bit
masked_bit : (x p i : ℕ) → p < 4 → i < 8 → plane_bit_in_word (bit_and x 16843009) p i ≡ alone (plane_bit_in_word x p 0) i
unfolding alone plane_bit_in_word
masked_bit x p zero plane within = word_bit_and x 16843009 p 0 ∙ min_one (plane_bit_in_word x p 0) _ (word_bit_lt x p 0)
    (word_bit_spread 1 p 0 (omega arith) plane within)
masked_bit x p (suc i) plane within = word_bit_and x 16843009 p (suc i) ∙ min_none (plane_bit_in_word x p (suc i)) _
    (word_bit_spread 1 p (suc i) (omega arith) plane within ∙ bit_at-suc 1 i ∙ bit_at-zero i)

byte_alone : (b : ℕ) → byte_of_bits (alone b) ≡ b
unfolding byte_of_bits alone
byte_alone b = omega arith

masked_byte : (x p : ℕ) → p < 4 → plane_byte_in_word p (bit_and x 16843009) ≡ plane_bit_in_word x p 0
masked_byte x p plane =
    byte_from_bits _ (alone (plane_bit_in_word x p 0)) (byte_below p (bit_and x 16843009)) (λ i within. sym (word_bit_byte (bit_and x 16843009) p i within)
    ∙ masked_bit x p i plane within)
    ∙ byte_alone (plane_bit_in_word x p 0)

-- four bits that stand apart, brought together by a product
together : (m n0 n1 n2 n3 : ℕ) → m < 4294967296 → n0 < 2 → n1 < 2 → n2 < 2 → n3 < 2 → plane_byte_in_word 0 m ≡ n0 → plane_byte_in_word 1 m ≡ n1 → plane_byte_in_word 2 m ≡ n2 → plane_byte_in_word 3 m ≡ n3
    → m * 270549120 % 4294967296 / 268435456 ≡ n0 + 2 * n1 + 4 * n2 + 8 * n3
together m n0 n1 n2 n3 fits s0 s1 s2 s3 e0 e1 e2 e3 =
    let is : m ≡ n0 + 256 * n1 + 65536 * n2 + 16777216 * n3 = omega arith in
    omega arith

-- the bit that was shifted to the lowest place
shifted : (w k p : ℕ) → plane_bit_in_word (w / 2 ^ k) p 0 ≡ plane_bit_in_word w p k
unfolding plane_bit_in_word
shifted w k p = let place : k + (8 * p + 0) ≡ 8 * p + k = omega arith in bit_at_shr w k (8 * p + 0) ∙ ap (bit_at w) place

-- a fact of 0 to 7 is one of each number below 8
by_eight : (P : ℕ → Type 0) → P 0 → P 1 → P 2 → P 3 → P 4 → P 5 → P 6 → P 7 → (k : ℕ) → k < 8 → P k
by_eight P p0 p1 p2 p3 p4 p5 p6 p7 zero l = p0
by_eight P p0 p1 p2 p3 p4 p5 p6 p7 (suc zero) l = p1
by_eight P p0 p1 p2 p3 p4 p5 p6 p7 (suc (suc zero)) l = p2
by_eight P p0 p1 p2 p3 p4 p5 p6 p7 (suc (suc (suc zero))) l = p3
by_eight P p0 p1 p2 p3 p4 p5 p6 p7 (suc (suc (suc (suc zero)))) l = p4
by_eight P p0 p1 p2 p3 p4 p5 p6 p7 (suc (suc (suc (suc (suc zero))))) l = p5
by_eight P p0 p1 p2 p3 p4 p5 p6 p7 (suc (suc (suc (suc (suc (suc zero)))))) l = p6
by_eight P p0 p1 p2 p3 p4 p5 p6 p7 (suc (suc (suc (suc (suc (suc (suc zero))))))) l = p7
by_eight P p0 p1 p2 p3 p4 p5 p6 p7 (suc (suc (suc (suc (suc (suc (suc (suc k)))))))) l = absurd (omega arith)

-- a mask that is shifted, and not beyond the word
mask_shifted : (k : ℕ) → k < 8 → 16843009 * 2 ^ k % 4294967296 ≡ 16843009 * 2 ^ k
mask_shifted = by_eight (λ k. 16843009 * 2 ^ k % 4294967296 ≡ 16843009 * 2 ^ k) refl refl refl refl refl refl refl refl

-- bits that stand higher, by a factor that is as much smaller
shifted_back : (m k : ℕ) → k < 8 → m * 2 ^ k * (270549120 / 2 ^ k) ≡ m * 270549120
shifted_back m = by_eight (λ k. m * 2 ^ k * (270549120 / 2 ^ k) ≡ m * 270549120)
    (omega arith) (omega arith) (omega arith) (omega arith) (omega arith) (omega arith) (omega arith) (omega arith)

-- bits where they stand are those of the shifted word, shifted back
mask_block : (w k : ℕ) → bit_and w (16843009 * 2 ^ k) ≡ bit_and (w / 2 ^ k) 16843009 * 2 ^ k
mask_block w k =
    let parts : w ≡ w / 2 ^ k * 2 ^ k + w % 2 ^ k = sym (div-add-mod' w (2 ^ k)) in
    let low : 16843009 * 2 ^ k ≡ 16843009 * 2 ^ k + 0 = omega arith in
    let none : bit_and (w / 2 ^ k) 16843009 * 2 ^ k + 0 ≡ bit_and (w / 2 ^ k) 16843009 * 2 ^ k = omega arith in
    ap₂ bit_and parts low ∙ and_block k (w / 2 ^ k) 16843009 (w % 2 ^ k) 0 (mod_below w (2 ^ k) (pow_pos k)) (pow_pos k)
    ∙ ap (λ r. bit_and (w / 2 ^ k) 16843009 * 2 ^ k + r) (and_zero_r (w % 2 ^ k)) ∙ none

pub gathered : (w k : ℕ) → k < 8 → bit_and w (16843009 * 2 ^ k % 4294967296) * (270549120 / 2 ^ k) % 4294967296 / 268435456 ≡ plane_bits_in_word w k
gathered w k within =
    let x = w / 2 ^ k in
    let byte : (p : ℕ) → p < 4 → plane_byte_in_word p (bit_and x 16843009) ≡ plane_bit_in_word w p k = λ p plane. masked_byte x p plane ∙ shifted w k p in
    let few = and_le_r x 16843009 in
    ap (λ q. q * (270549120 / 2 ^ k) % 4294967296 / 268435456) (ap (bit_and w) (mask_shifted k within) ∙ mask_block w k)
    ∙ ap (λ q. q % 4294967296 / 268435456) (shifted_back (bit_and x 16843009) k within)
    ∙ together (bit_and x 16843009) _ _ _ _ (omega arith) (word_bit_lt w 0 k) (word_bit_lt w 1 k) (word_bit_lt w 2 k) (word_bit_lt w 3 k)
    (byte 0 (omega arith)) (byte 1 (omega arith)) (byte 2 (omega arith)) (byte 3 (omega arith))
