-- Numbers in words: what is read is spelled so, and what is spelled so is read.
use Rattle.std.proofs.Common.{◌≡◌, ℕ, ◌+◌, ◌*◌, ◌^◌, ◌<◌, ◌≤◌, Bool, true, cond, ◌&&◌, nat_le, List, [], ◌∷◌, length, Option, Some, None, refl, sym, ap, ◌∙◌}
use Rattle.std.proofs.Common.{arith, subst}
use Rattle.std.specs.Char.{digit_value, is_digit}
use Rattle.std.specs.Str.Parse.{AllDigits, digits_value, digits_value_after}
use Rattle.std.proofs.lemmas.Int.Digits.{digits_value-lt}
use Rattle.std.proofs.Math.Nat.{le-mul_of_pos_right, pow-le-pow_right}
use Rattle.vga_script.specs.Tokens.{IsNumeral, IsHex}
use Rattle.vga_script.specs.Text.{SpellsHex, SpellsTwoHex}
use Rattle.vga_script.proofs.OptionLemmas.{bind_ok, guard_ok, and_ok, and_true, some_is, le_test, le_passes, lt_test, lt_passes}
use Rattle.vga_script.specs.StepReading.{◌>>=◌, number_from, number_of_word, hex_number_of, next_hex_number, only_hex_number, only_two_hex_numbers, only_decimal_number, no_word_left}

-- ---- digits after a number

-- three steps of arithmetic
grown : (n k d v : ℕ) → n ≤ k → k + d ≤ v → n ≤ v
grown n k d v p q = omega arith

through : (a b c : ℕ) → a ≤ b → b ≤ c → a ≤ c
through a b c p q = omega arith

along : (n v a b : ℕ) → n ≡ v → v < a → a ≤ b → n < b
along n v a b e p q = omega arith

-- digits after a number: those that were read, and those that can be
from_reads : (radix most n : ℕ) (w : List ℕ) (m : ℕ) → n ≤ most → number_from radix most n w ≡ Some m → AllDigits radix w × (m ≡ digits_value_after radix n w)
    × (m ≤ most)
from_reads radix most n [] m within e = let same : n ≡ m = some_is n m e in (tt, sym same, omega arith)
from_reads radix most n (c ∷ cs) m within e =
    let g = guard_ok (is_digit c radix && nat_le (n * radix + digit_value c) most) (number_from radix most (n * radix + digit_value c) cs) m e in
    let t = and_ok (is_digit c radix) (nat_le (n * radix + digit_value c) most) g.0 in
    let r = from_reads radix most (n * radix + digit_value c) cs m (le_test _ _ t.1) g.1 in
    ((lt_test _ _ t.0, r.0), r.1, r.2)

-- a number grows with each digit
value_ge : (radix n : ℕ) (w : List ℕ) → 0 < radix → n ≤ digits_value_after radix n w
value_ge radix n [] some = omega arith
value_ge radix n (c ∷ cs) some =
    let more = value_ge radix (n * radix + digit_value c) cs some in
    let grows = le-mul_of_pos_right n some in
    grown n (n * radix) (digit_value c) (digits_value_after radix (n * radix + digit_value c) cs) grows more

spells_from : (radix most n : ℕ) (w : List ℕ) → 0 < radix → AllDigits radix w → digits_value_after radix n w ≤ most →
    number_from radix most n w ≡ Some (digits_value_after radix n w)
spells_from radix most n [] some all within = refl
spells_from radix most n (c ∷ cs) some all within =
    let here : n * radix + digit_value c ≤ digits_value_after radix (n * radix + digit_value c) cs = value_ge radix (n * radix + digit_value c) cs some in
    let test : (is_digit c radix && nat_le (n * radix + digit_value c) most) ≡ true =
    and_true (is_digit c radix) _ (lt_passes _ _ all.0) (le_passes _ _ (through _ _ _ here within)) in
    ap (λ (b : Bool). cond b (number_from radix most (n * radix + digit_value c) cs) None) test
    ∙ spells_from radix most (n * radix + digit_value c) cs some all.1 within

-- ---- words

-- what is read of a word is spelled, and what is spelled is read
pub number_reads : (radix most : ℕ) (w : List ℕ) (m : ℕ) → number_of_word radix most w ≡ Some m → IsNumeral radix w m × (m ≤ most)
unfolding number_of_word
number_reads radix most [] m e = absurd (cc)
number_reads radix most (c ∷ cs) m e = let r = from_reads radix most 0 (c ∷ cs) m (omega arith) e in ((omega arith, r.0, r.1), r.2)

pub spells_number : (radix most : ℕ) (w : List ℕ) (m : ℕ) → 0 < radix → IsNumeral radix w m → m ≤ most → number_of_word radix most w ≡ Some m
unfolding number_of_word
spells_number radix most [] m some (has, all, value) within = absurd (omega arith)
spells_number radix most (c ∷ cs) m some (has, all, value) within =
    spells_from radix most 0 (c ∷ cs) some all (rw (← value) within) ∙ ap (λ (n : ℕ). Some n) (sym value)

-- a number below a power fits
fits : (n a most : ℕ) → n < a → a ≤ most + 1 → n ≤ most
fits n a most below room = omega arith

-- a number of at most `digits` hexadecimal digits is below that power of 16
pub hex_below : (digits : ℕ) (w : List ℕ) (n : ℕ) → IsHex digits w n → n < 16 ^ digits
hex_below digits w n (short, (has, all, value)) =
    let below = digits_value-lt 16 w all in
    let power : 16 ^ length w ≤ 16 ^ digits = pow-le-pow_right (omega arith) short in
    along n (digits_value 16 w) (16 ^ length w) (16 ^ digits) value below power

-- the same of a hexadecimal number
pub hex_reads : (digits most : ℕ) (w : List ℕ) (n : ℕ) → hex_number_of digits most w ≡ Some n → IsHex digits w n × (n ≤ most)
unfolding hex_number_of
hex_reads digits most w n e =
    let g = guard_ok (nat_le (length w) digits) (number_of_word 16 most w) n e in
    let r = number_reads 16 most w n g.1 in
    ((le_test _ _ g.0, r.0), r.1)

pub spells_hex : (digits most : ℕ) (w : List ℕ) (n : ℕ) → IsHex digits w n → n ≤ most → hex_number_of digits most w ≡ Some n
unfolding hex_number_of
spells_hex digits most w n (short, numeral) within =
    ap (λ (b : Bool). cond b (number_of_word 16 most w) None) (le_passes _ _ short) ∙ spells_number 16 most w n (omega arith) numeral within

-- and of the first word of some
pub hex_at_reads : (digits most : ℕ) (ws : List (List ℕ)) (x : ℕ × List (List ℕ)) → next_hex_number digits most ws ≡ Some x → (w : List ℕ) × (ws ≡ w ∷ x.1)
    × IsHex digits w x.0 × (x.0 ≤ most)
unfolding next_hex_number
hex_at_reads digits most [] x e = absurd (cc)
hex_at_reads digits most (w ∷ ws) x e =
    let b = bind_ok (hex_number_of digits most w) (λ n. Some (n, ws)) x e in
    let r = hex_reads digits most w b.0 b.1 in
    subst (λ (y : ℕ × List (List ℕ)). (v : List ℕ) × (w ∷ ws ≡ v ∷ y.1) × IsHex digits v y.0 × (y.0 ≤ most)) (some_is (b.0, ws) x b.2) (w, refl, r.0, r.1)

pub spells_hex_at : (digits most : ℕ) (w : List ℕ) (n : ℕ) (ws : List (List ℕ)) → IsHex digits w n → n ≤ most → next_hex_number digits most (w ∷ ws) ≡ Some (n, ws)
unfolding next_hex_number
spells_hex_at digits most w n ws hex within = rw (spells_hex digits most w n hex within) refl

-- no word was left
pub ended_ok : {A : Type 0} (ws : List (List ℕ)) (r : Option A) (y : A) → (no_word_left ws >>= λ u. r) ≡ Some y → (ws ≡ []) × (r ≡ Some y)
unfolding no_word_left
ended_ok [] r y e = (refl, e)
ended_ok (w ∷ ws) r y e = absurd (cc)

-- ---- all the words of a step's fields

-- a word and what is known of the words after it
pub then_words : (ws : List (List ℕ)) (word : List ℕ) (rest known : List (List ℕ)) → ws ≡ word ∷ rest → rest ≡ known → ws ≡ word ∷ known
then_words ws word rest known e f = e ∙ ap (λ (l : List (List ℕ)). word ∷ l) f

-- one number, and no other word
pub one_hex_reads : (digits most : ℕ) (ws : List (List ℕ)) (n : ℕ) → only_hex_number digits most ws ≡ Some n → SpellsHex digits ws n
unfolding only_hex_number
one_hex_reads digits most ws n e =
    let a = bind_ok (next_hex_number digits most ws) (λ x. no_word_left x.1 >>= λ u. Some x.0) n e in
    let c = ended_ok a.0.1 (Some a.0.0) n a.2 in
    let p = hex_at_reads digits most ws a.0 a.1 in
    subst (SpellsHex digits ws) (some_is a.0.0 n c.1) (p.0, then_words ws p.0 a.0.1 [] p.1 c.0, p.2)

pub spells_one_hex : (digits most : ℕ) (ws : List (List ℕ)) (n : ℕ) → SpellsHex digits ws n → 16 ^ digits ≤ most + 1 → only_hex_number digits most ws ≡ Some n
unfolding only_hex_number no_word_left
spells_one_hex digits most ws n (word, e, hex) room =
    let below = hex_below digits word n hex in
    rw (e, spells_hex_at digits most word n [] hex (fits n (16 ^ digits) most below room)) refl

-- two numbers, and no other word
pub two_hex_reads : (digits most digits' most' : ℕ) (ws : List (List ℕ)) (n : ℕ × ℕ) → only_two_hex_numbers digits most digits' most' ws ≡ Some n →
    SpellsTwoHex digits digits' ws n.0 n.1
unfolding only_two_hex_numbers
two_hex_reads digits most digits' most' ws n e =
    let a = bind_ok (next_hex_number digits most ws) (λ x. next_hex_number digits' most' x.1 >>= λ y. no_word_left y.1 >>= λ u. Some (x.0, y.0)) n e in
    let b = bind_ok (next_hex_number digits' most' a.0.1) (λ y. no_word_left y.1 >>= λ u. Some (a.0.0, y.0)) n a.2 in
    let c = ended_ok b.0.1 (Some (a.0.0, b.0.0)) n b.2 in
    let p = hex_at_reads digits most ws a.0 a.1 in
    let v = hex_at_reads digits' most' a.0.1 b.0 b.1 in
    subst (λ (x : ℕ × ℕ). SpellsTwoHex digits digits' ws x.0 x.1) (some_is (a.0.0, b.0.0) n c.1)
    (p.0, v.0, then_words ws p.0 a.0.1 (v.0 ∷ []) p.1 (then_words a.0.1 v.0 b.0.1 [] v.1 c.0), p.2, v.2)

pub spells_two_hex : (digits most digits' most' : ℕ) (ws : List (List ℕ)) (n m : ℕ) → SpellsTwoHex digits digits' ws n m → 16 ^ digits ≤ most + 1 →
    16 ^ digits' ≤ most' + 1 → only_two_hex_numbers digits most digits' most' ws ≡ Some (n, m)
unfolding only_two_hex_numbers no_word_left
spells_two_hex digits most digits' most' ws n m (word, other, e, hex, hex') room room' =
    let below = hex_below digits word n hex in
    let below' = hex_below digits' other m hex' in
    rw (
      e,
      spells_hex_at digits most word n (other ∷ []) hex (fits n (16 ^ digits) most below room),
      spells_hex_at digits' most' other m [] hex' (fits m (16 ^ digits') most' below' room'),
    ) refl

-- one decimal number, and no other word
pub one_decimal_reads : (most : ℕ) (ws : List (List ℕ)) (n : ℕ) → only_decimal_number most ws ≡ Some n → (word : List ℕ) × (ws ≡ word ∷ []) × IsNumeral 10 word n
    × (n ≤ most)
unfolding only_decimal_number
one_decimal_reads most [] n e = absurd (cc)
one_decimal_reads most (w ∷ ws) n e =
    let x = bind_ok (number_of_word 10 most w >>= λ m. Some (m, ws)) (λ x. no_word_left x.1 >>= λ u. Some x.0) n e in
    let b = bind_ok (number_of_word 10 most w) (λ m. Some (m, ws)) x.0 x.1 in
    let same = some_is (b.0, ws) x.0 b.2 in
    let c = ended_ok x.0.1 (Some x.0.0) n x.2 in
    let r = number_reads 10 most w b.0 b.1 in
    let value : b.0 ≡ n = ap (λ (y : ℕ × List (List ℕ)). y.0) same ∙ some_is x.0.0 n c.1 in
    let none : ws ≡ [] = ap (λ (y : ℕ × List (List ℕ)). y.1) same ∙ c.0 in
    subst (λ (x : ℕ). (word : List ℕ) × (w ∷ ws ≡ word ∷ []) × IsNumeral 10 word x × (x ≤ most)) value
    (w, then_words (w ∷ ws) w ws [] refl none, r.0, r.1)

pub spells_one_decimal : (most : ℕ) (w : List ℕ) (n : ℕ) → IsNumeral 10 w n → n ≤ most → only_decimal_number most (w ∷ []) ≡ Some n
unfolding only_decimal_number no_word_left
spells_one_decimal most w n numeral within = rw (spells_number 10 most w n (omega arith) numeral within) refl
