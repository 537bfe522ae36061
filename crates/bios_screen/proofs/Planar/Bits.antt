-- What a write of one pixel in sixteen colours does to the eight pixels of its byte.
use Rattle.std.proofs.Common.{◌≡◌, ℕ, zero, suc, ◌+◌, ◌-◌, ◌*◌, ◌/◌, ◌%◌, ◌^◌, ◌<◌, refl, sym, ap, ◌∙◌, arith, Bool, true, false}
use Rattle.std.specs.Prelude.{◌==◌, if◌then◌else◌, bit_xor}
use Rattle.std.specs.Int.{bit_at}
use Rattle.std.proofs.lemmas.Bool.{agree_below_at}
use Rattle.std.proofs.lemmas.Bool.Decides.{nat_tests}
use Rattle.std.proofs.lemmas.Nat.Bits.{bit_at-lt}
use Rattle.vga_bits.specs.Bits.{byte_of_bits}
use Rattle.vga_bits.specs.Four.{Four, of_plane}
use Rattle.vga_bits.proofs.FourLemmas.{by_plane}
use Rattle.vga_host.specs.Memory.Write.{written_bit, combined_bit, written_byte}
use Rattle.bios_screen.proofs.Planar.Settings.{Hand, drawing, bare, stored}

-- ---- a four-bit number with one bit from each plane

abbrev pub nibble : (ℕ → ℕ) → ℕ
nibble f = f 0 + 2 * f 1 + 4 * f 2 + 8 * f 3

pub same_nibble : (f g : ℕ → ℕ) → ((p : ℕ) → p < 4 → f p ≡ g p) → nibble f ≡ nibble g
same_nibble f g h = let h0 = h 0 (omega arith) in let h1 = h 1 (omega arith) in let h2 = h 2 (omega arith) in let h3 = h 3 (omega arith) in omega arith

-- pixel i of four bytes, one of each plane; pixel 0 is the highest bit
abbrev pub nibble_of : Four ℕ → ℕ → ℕ
nibble_of q i = nibble (λ p. bit_at (of_plane q p) (7 - i))

-- a number modulo 16, from its four low bits
pub low_is : (v : ℕ) → nibble (bit_at v) ≡ v % 16
low_is v = omega arith

-- the XOR of two numbers below 16, bit by bit
xor_16 : (x m : ℕ) → x < 16 → m < 16 → nibble (λ p. (bit_at x p + bit_at m p) % 2) ≡ bit_xor x m
xor_16 x m hx hm =
    let n = 16 * x + m in
    let a : n / 16 ≡ x = omega arith in
    let b : n % 16 ≡ m = omega arith in
    let f = λ (x m : ℕ). nibble (λ p. (bit_at x p + bit_at m p) % 2) in
    let t = agree_below_at (λ n. f (n / 16) (n % 16) == bit_xor (n / 16) (n % 16)) (λ _. true) 256 n refl (omega arith) in
    let e : f (n / 16) (n % 16) ≡ bit_xor (n / 16) (n % 16) = grind (arith, nat_tests) in
    sym (ap (λ x. f x m) a) ∙ sym (ap (λ y. f (n / 16) y) b) ∙ e ∙ ap (λ x. bit_xor x (n % 16)) a ∙ ap (λ y. bit_xor x y) b

pub xor_nibble : (m : ℕ) (x : ℕ → ℕ) → ((p : ℕ) → x p < 2) → nibble (λ p. (bit_at m p + x p) % 2) ≡ bit_xor (nibble x) (m % 16)
xor_nibble m x s =
    let n = nibble x in
    let s0 = s 0 in let s1 = s 1 in let s2 = s 2 in let s3 = s 3 in
    same_nibble (λ p. (bit_at m p + x p) % 2) (λ p. (bit_at n p + bit_at (m % 16) p) % 2)
    (by_plane (λ p. (bit_at m p + x p) % 2 ≡ (bit_at n p + bit_at (m % 16) p) % 2) (omega arith) (omega arith) (omega arith) (omega arith))
    ∙ xor_16 n (m % 16) (omega arith) (omega arith)

-- ---- a bit of a byte that is built from bits

by_eight : (P : ℕ → Type 0) → P 0 → P 1 → P 2 → P 3 → P 4 → P 5 → P 6 → P 7 → (j : ℕ) → j < 8 → P j
by_eight P a b c d e f g h zero l = a
by_eight P a b c d e f g h (suc zero) l = b
by_eight P a b c d e f g h (suc (suc zero)) l = c
by_eight P a b c d e f g h (suc (suc (suc zero))) l = d
by_eight P a b c d e f g h (suc (suc (suc (suc zero)))) l = e
by_eight P a b c d e f g h (suc (suc (suc (suc (suc zero))))) l = f
by_eight P a b c d e f g h (suc (suc (suc (suc (suc (suc zero)))))) l = g
by_eight P a b c d e f g h (suc (suc (suc (suc (suc (suc (suc zero))))))) l = h
by_eight P a b c d e f g h (suc (suc (suc (suc (suc (suc (suc (suc j)))))))) l = absurd (omega arith)

pub bit_of : (f : ℕ → ℕ) → ((i : ℕ) → f i < 2) → (j : ℕ) → j < 8 → bit_at (byte_of_bits f) j ≡ f j
unfolding byte_of_bits
bit_of f h =
    let h0 = h 0 in let h1 = h 1 in let h2 = h 2 in let h3 = h 3 in let h4 = h 4 in let h5 = h 5 in let h6 = h 6 in let h7 = h 7 in
    by_eight (λ j. bit_at (byte_of_bits f) j ≡ f j) (omega arith) (omega arith) (omega arith) (omega arith) (omega arith) (omega arith) (omega arith) (omega arith)

-- 80 shifted right by k has bit 7 - k set, and no other
pub one_bit : (j k : ℕ) → j < 8 → k < 8 → (bit_at (0x80 / 2 ^ k) j == 0) ≡ (if 7 - k == j then false else true)
one_bit j k hj hk =
    let n = 8 * k + j in
    let a : n / 8 ≡ k = omega arith in
    let b : n % 8 ≡ j = omega arith in
    let t = agree_below_at (λ n. bit_at (0x80 / 2 ^ (n / 8)) (n % 8) == 0) (λ n. if 7 - n / 8 == n % 8 then false else true) 64 n refl (omega arith) in
    ap (λ x. bit_at (0x80 / 2 ^ x) j == 0) (sym a) ∙ ap (λ y. bit_at (0x80 / 2 ^ (n / 8)) y == 0) (sym b) ∙ t
    ∙ ap (λ x. if 7 - x == n % 8 then false else true) a ∙ ap (λ y. if 7 - k == y then false else true) b

-- ---- a Put in write mode 2 with one bit in the bit mask, directly or by XOR

abbrev pub dot_hand : Bool → ℕ → Hand
dot_hand b k = record { mask = 0x0F; turn = if b then 0x18 else 0x00; mode = 0x02; bits = 0x80 / 2 ^ k }

-- bit i of plane p after such a Put, and the drawn pixel
abbrev dot_bit : Bool → ℕ → ℕ → ℕ → ℕ → ℕ → ℕ
dot_bit b k p v latch i = if bit_at (0x80 / 2 ^ k) i == 0 then bit_at latch i else if b then (bit_at v p + bit_at latch i) % 2 else bit_at v p

abbrev pub dot_over : Bool → ℕ → ℕ → ℕ
dot_over b v old = if b then bit_xor old (v % 16) else v % 16

dot_bit_small : (b : Bool) (k p v latch i : ℕ) → dot_bit b k p v latch i < 2
dot_bit_small b k p v latch i = by_tests (bit_at (0x80 / 2 ^ k) i == 0) b
  where
    by_tests : (a b : Bool) → (if a then bit_at latch i else if b then (bit_at v p + bit_at latch i) % 2 else bit_at v p) < 2
    by_tests true b = bit_at-lt latch i
    by_tests false true = omega arith
    by_tests false false = bit_at-lt v p

bits_dotted : (b : Bool) (e d k p v i : ℕ) (q : Four ℕ) → k < 8 → i < 8 → bit_at (written_byte (bare (drawing e d (dot_hand b k)) q) v p) i
    ≡ dot_bit b k p v (of_plane q p) i
unfolding written_bit combined_bit
bits_dotted true e d k p v i q hk hi = bit_of (dot_bit true k p v (of_plane q p)) (dot_bit_small true k p v (of_plane q p)) i hi
bits_dotted false e d k p v i q hk hi = bit_of (dot_bit false k p v (of_plane q p)) (dot_bit_small false k p v (of_plane q p)) i hi

-- such a Put changes one pixel only
pub pixel_dotted : (b : Bool) (e d k v i : ℕ) (q : Four ℕ) → k < 8 → i < 8 → nibble_of (stored (drawing e d (dot_hand b k)) 0x0F v q q) i
    ≡ (if i == k then dot_over b v (nibble_of q i) else nibble_of q i)
pixel_dotted b e d k v i q hk hi =
    let j = 7 - i in
    let l : j < 8 = omega arith in
    let same : (7 - k == j) ≡ (i == k) = grind (arith, nat_tests) in
    let t : (bit_at (0x80 / 2 ^ k) j == 0) ≡ (if i == k then false else true) = one_bit j k l hk ∙ ap (λ b. if b then false else true) same in
    let s = bits_dotted b e d k in
    let new : Bool → ℕ = λ n. nibble (λ p. if n then bit_at (of_plane q p) j else if b then (bit_at v p + bit_at (of_plane q p) j) % 2 else bit_at v p) in
    rw (s 0 v j q hk l, s 1 v j q hk l, s 2 v j q hk l, s 3 v j q hk l) (ap new t ∙ by_tests (i == k) b)
  where
    by_tests : (a b : Bool) → (let n = if a then false else true in nibble (λ p. if n then bit_at (of_plane q p) (7 - i) else if b
        then (bit_at v p + bit_at (of_plane q p) (7 - i)) % 2 else bit_at v p)) ≡ (if a then dot_over b v (nibble_of q i) else nibble_of q i)
    by_tests true true = xor_nibble v (λ p. bit_at (of_plane q p) (7 - i)) (λ p. bit_at-lt (of_plane q p) (7 - i))
    by_tests true false = low_is v
    by_tests false b = refl
