-- Words of four planes by their bytes and their bits.
use Rattle.std.proofs.Common.{true, not, ◌&&◌, ◌||◌, w8, ◌≡◌, ℕ, zero, suc, ◌+◌, ◌-◌, ◌*◌, ◌/◌, ◌%◌, ◌^◌, ◌<◌, arith, refl, sym, ap, ap₂, ◌∙◌, bit_and, bit_or}
use Rattle.std.proofs.Common.{bit_xor, ◌==◌, if◌then◌else◌, w32, min, max}
use Rattle.std.proofs.lemmas.Bool.{agree_below_at, eqb-true}
use Rattle.std.proofs.lemmas.Bool.Decides.{nat_tests}
use Rattle.std.specs.Int.{bit_at}
use Rattle.std.proofs.lemmas.Nat.Bits.{bit_at_or, bit_at_and, bit_at_not, bit_at_xor, bit_at-lt, bit_at-zero}
use Rattle.vga_bits.specs.Bits.{byte_of_bits}
use Rattle.vga_bits.specs.Four.{four_by_plane, of_plane}
use Rattle.vga_bits.specs.Words.{plane_byte_in_word, plane_bytes_of_word, plane_bit_in_word}
use Rattle.vga_bits.proofs.BitLemmas.{byte_from_bits, ones_byte, bit_at_cut, bit_at_shr}
use Rattle.vga_bits.proofs.FourLemmas.{by_plane}

-- ---- a word and its four bytes

pub byte_below : (p w : ℕ) → plane_byte_in_word p w < 256
byte_below p w = omega arith

-- one of four bytes is that of its plane
pub byte_of_plane : (w p : ℕ) → p < 4 → of_plane (plane_bytes_of_word w) p ≡ plane_byte_in_word p w
byte_of_plane w = by_plane (λ p. of_plane (plane_bytes_of_word w) p ≡ plane_byte_in_word p w) refl refl refl refl

-- each of four bytes is below 256
pub bytes_below : (w p : ℕ) → p < 4 → of_plane (plane_bytes_of_word w) p < 256
bytes_below w = by_plane (λ p. of_plane (plane_bytes_of_word w) p < 256) (byte_below 0 w) (byte_below 1 w) (byte_below 2 w) (byte_below 3 w)

-- ---- a word and its bits

-- bit i of plane p is bit i of that plane's byte
pub word_bit_byte : (w p i : ℕ) → i < 8 → plane_bit_in_word w p i ≡ bit_at (plane_byte_in_word p w) i
unfolding plane_bit_in_word
word_bit_byte w p i within = sym (bit_at_cut (w / 2 ^ (8 * p)) 8 i within ∙ bit_at_shr w (8 * p) i)

pub word_bit_plane : (w p i : ℕ) → p < 4 → i < 8 → plane_bit_in_word w p i ≡ bit_at (of_plane (plane_bytes_of_word w) p) i
word_bit_plane w p i plane within = word_bit_byte w p i within ∙ ap (λ b. bit_at b i) (sym (byte_of_plane w p plane))

pub word_bit_lt : (w p i : ℕ) → plane_bit_in_word w p i < 2
unfolding plane_bit_in_word
word_bit_lt w p i = bit_at-lt w (8 * p + i)

pub word_bit_and : (a b p i : ℕ) → plane_bit_in_word (bit_and a b) p i ≡ min (plane_bit_in_word a p i) (plane_bit_in_word b p i)
unfolding plane_bit_in_word
word_bit_and a b p i = bit_at_and a b (8 * p + i)

pub word_bit_or : (a b p i : ℕ) → plane_bit_in_word (bit_or a b) p i ≡ max (plane_bit_in_word a p i) (plane_bit_in_word b p i)
unfolding plane_bit_in_word
word_bit_or a b p i = bit_at_or a b (8 * p + i)

pub word_bit_xor : (a b p i : ℕ) → plane_bit_in_word (bit_xor a b) p i ≡ (plane_bit_in_word a p i + plane_bit_in_word b p i) % 2
unfolding plane_bit_in_word
word_bit_xor a b p i = bit_at_xor a b (8 * p + i)

pub word_bit_not : (m p i : ℕ) → m < 4294967296 → p < 4 → i < 8 → plane_bit_in_word (4294967295 - m) p i ≡ 1 - plane_bit_in_word m p i
unfolding plane_bit_in_word
word_bit_not m p i fits plane within = bit_at_not w32 m (8 * p + i) fits (omega arith)

-- the bits of `(d & m) | (l & !m)`
pub word_bit_select : (d m l p i : ℕ) → m < 4294967296 → p < 4 → i < 8
    → plane_bit_in_word (bit_or (bit_and d m) (bit_and l (4294967295 - m))) p i ≡ (if plane_bit_in_word m p i == 0 then plane_bit_in_word l p i else plane_bit_in_word d p i)
word_bit_select d m l p i fits plane within =
    let either = word_bit_or (bit_and d m) (bit_and l (4294967295 - m)) p i in
    let chosen = word_bit_and d m p i in
    let other = word_bit_and l (4294967295 - m) p i in
    let complement = word_bit_not m p i fits plane within in
    let bit_d = word_bit_lt d p i in
    let bit_m = word_bit_lt m p i in
    let bit_l = word_bit_lt l p i in
    grind (arith, nat_tests)

-- the four bytes of a word whose bits are given
pub bytes_from_bits : (w : ℕ) (f : ℕ → ℕ → ℕ) → ((p i : ℕ) → p < 4 → i < 8 → plane_bit_in_word w p i ≡ f p i) → plane_bytes_of_word w ≡ four_by_plane (λ p. byte_of_bits (f p))
bytes_from_bits w f bits =
    let each : (p : ℕ) → p < 4 → plane_byte_in_word p w ≡ byte_of_bits (f p) =
    λ p plane. byte_from_bits _ _ (byte_below p w) (λ i within. sym (word_bit_byte w p i within) ∙ bits p i plane within) in
    let e0 = each 0 (omega arith) in
    let e1 = each 1 (omega arith) in
    let e2 = each 2 (omega arith) in
    let e3 = each 3 (omega arith) in
    λ j. record { plane0 = e0 j; plane1 = e1 j; plane2 = e2 j; plane3 = e3 j }

-- ---- a byte in each plane

-- `v * 01010101` has the byte v in each plane
pub word_bit_spread : (v p i : ℕ) → v < 256 → p < 4 → i < 8 → plane_bit_in_word (v * 16843009) p i ≡ bit_at v i
word_bit_spread v p i fits plane within =
    word_bit_byte (v * 16843009) p i within
    ∙ ap (λ b. bit_at b i) (by_plane (λ q. plane_byte_in_word q (v * 16843009) ≡ v) (omega arith) (omega arith) (omega arith) (omega arith) p plane)

-- bit p of s in the lowest bit of plane p
abbrev apart : ℕ → ℕ
apart s = bit_at s 0 + 256 * bit_at s 1 + 65536 * bit_at s 2 + 16777216 * bit_at s 3

apart_test : (s : ℕ) → s < 16 → (bit_and (s * 2113665) 16843009 == apart s) ≡ true
apart_test s few = agree_below_at (λ k. bit_and (k * 2113665) 16843009 == apart k) (λ _. true) 16 s refl few

apart_is : (s : ℕ) → s < 16 → bit_and (s * 2113665) 16843009 ≡ apart s
apart_is s few = eqb-true _ _ (apart_test s few)

full : (b i : ℕ) → b < 2 → i < 8 → bit_at (255 * b) i ≡ b
full zero i bit within = bit_at-zero i
full (suc zero) i bit within = ones_byte i within
full (suc (suc b)) i bit within = absurd (omega arith)

apart_byte : (s p : ℕ) → p < 4 → plane_byte_in_word p (apart s * 255) ≡ 255 * bit_at s p
apart_byte s =
    let b0 = bit_at-lt s 0 in
    let b1 = bit_at-lt s 1 in
    let b2 = bit_at-lt s 2 in
    let b3 = bit_at-lt s 3 in
    by_plane (λ p. plane_byte_in_word p (apart s * 255) ≡ 255 * bit_at s p) (omega arith) (omega arith) (omega arith) (omega arith)

-- `(s % 16 * 00204081 & 01010101) * FF` has bit p of s in all eight bits of plane p
pub word_bit_filled : (s p i : ℕ) → p < 4 → i < 8 → plane_bit_in_word (bit_and (s % 16 * 2113665) 16843009 * 255) p i ≡ bit_at s p
word_bit_filled s p i plane within =
    ap (λ w. plane_bit_in_word (w * 255) p i) (apart_is (s % 16) (omega arith))
    ∙ word_bit_byte (apart (s % 16) * 255) p i within
    ∙ ap (λ b. bit_at b i) (apart_byte (s % 16) p plane)
    ∙ full (bit_at (s % 16) p) i (bit_at-lt (s % 16) p) within
    ∙ bit_at_cut s 4 p plane

-- ---- tests of all planes at once

-- the bits of `(a ^ b) & m` tell where the two differ in the planes of the mask
pub word_bit_differing : (a b m p i : ℕ) → plane_bit_in_word (bit_and (bit_xor a b) m) p i
    ≡ (if not (plane_bit_in_word m p i == 1) || (plane_bit_in_word a p i == plane_bit_in_word b p i) then 0 else 1)
word_bit_differing a b m p i =
    let both = word_bit_and (bit_xor a b) m p i in
    let either = word_bit_xor a b p i in
    let bit_a = word_bit_lt a p i in
    let bit_b = word_bit_lt b p i in
    let bit_m = word_bit_lt m p i in
    grind (arith, nat_tests)

bit_at_fold : (w n i : ℕ) → bit_at (bit_or w (w / 2 ^ n)) i ≡ max (bit_at w i) (bit_at w (n + i))
bit_at_fold w n i = bit_at_or w (w / 2 ^ n) i ∙ ap (max (bit_at w i)) (bit_at_shr w n i)

folded_bits : (x a b c d : ℕ) → a < 2 → b < 2 → c < 2 → d < 2 → x ≡ 1 - max (max a c) (max b d)
    → x ≡ (if (a == 0) && ((b == 0) && ((c == 0) && (d == 0))) then 1 else 0)
folded_bits x a b c d fa fb fc fd e = grind (arith, nat_tests)

-- the complement of `h | h >> 8`, where h is `w | w >> 16`, tells which bits are 0 in all four planes
pub word_bit_folded : (w h i : ℕ) → i < 8 → h ≡ bit_or w (w / 2 ^ 16)
    → bit_at (255 - bit_or h (h / 2 ^ 8) % 256) i ≡ (if (plane_bit_in_word w 0 i == 0) && ((plane_bit_in_word w 1 i == 0) && ((plane_bit_in_word w 2 i == 0) && (plane_bit_in_word w 3 i == 0)))
    then 1 else 0)
unfolding plane_bit_in_word
word_bit_folded w h i within half =
    let complement = bit_at_not w8 (bit_or h (h / 2 ^ 8) % 256) i (omega arith) within in
    let cut = bit_at_cut (bit_or h (h / 2 ^ 8)) 8 i within in
    let second = bit_at_fold h 8 i in
    let lowest : i ≡ 0 + i = omega arith in
    let place : 16 + (8 + i) ≡ 24 + i = omega arith in
    let first : bit_at h i ≡ max (bit_at w (0 + i)) (bit_at w (16 + i)) =
    ap (λ x. bit_at x i) half ∙ bit_at_fold w 16 i ∙ ap (λ n. max (bit_at w n) (bit_at w (16 + i))) lowest in
    let first_8 : bit_at h (8 + i) ≡ max (bit_at w (8 + i)) (bit_at w (24 + i)) =
    ap (λ x. bit_at x (8 + i)) half ∙ bit_at_fold w 16 (8 + i) ∙ ap (λ n. max (bit_at w (8 + i)) (bit_at w n)) place in
    folded_bits (bit_at (255 - bit_or h (h / 2 ^ 8) % 256) i) (bit_at w (0 + i)) (bit_at w (8 + i)) (bit_at w (16 + i)) (bit_at w (24 + i))
    (bit_at-lt w (0 + i)) (bit_at-lt w (8 + i)) (bit_at-lt w (16 + i)) (bit_at-lt w (24 + i))
    (complement ∙ ap (λ x. 1 - x) (cut ∙ second ∙ ap₂ max first first_8))
