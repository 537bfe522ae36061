-- Pushing hexadecimal digits at a text's end.
use Rattle.std.proofs.Common.{◌≡◌, ℕ, zero, suc, ◌-◌, ◌/◌, ◌%◌, ◌<◌, ◌≤◌, List, [], ◌∷◌, ◌++◌, sym, ◌∙◌, arith, append_assoc, append-nil, refl}
use Rattle.vga_bits.specs.Hex.{hex, hex_digit}

-- no digits
pub hex_none : (k n : ℕ) (old : List ℕ) → k ≤ 0 → old ≡ old ++ hex k n
unfolding hex
hex_none zero n old e = sym (append-nil old)
hex_none (suc k) n old e = absurd (omega arith)

hex_more : (k n : ℕ) → 0 < k → hex k n ≡ hex (k - 1) (n / 16) ++ hex_digit (n % 16) ∷ []
unfolding hex
hex_more zero n some = absurd (omega arith)
hex_more (suc k) n some = let e : suc k - 1 ≡ k = omega arith in rw e refl

-- the last digit after the others
pub hex_pushed : (k n : ℕ) (old mid new : List ℕ) (d : ℕ) → 0 < k → mid ≡ old ++ hex (k - 1) (n / 16) → d ≡ hex_digit (n % 16) → new ≡ mid ++ d ∷ [] → new ≡ old
    ++ hex k n
hex_pushed k n old mid new d some e f g = g ∙ rw (e, f, hex_more k n some) (append_assoc old (hex (k - 1) (n / 16)) (hex_digit (n % 16) ∷ []))

-- the digits of a byte
pub hex_of_byte : (n : ℕ) → n < 256 → hex 2 n ≡ hex_digit (n / 16) ∷ hex_digit (n % 16) ∷ []
unfolding hex
hex_of_byte n small = let e : n / 16 % 16 ≡ n / 16 = omega arith in rw e refl

-- the digits of a word
pub hex_of_word : (n : ℕ) → n < 65536 → hex 4 n ≡ hex_digit (n / 4096) ∷ hex_digit (n / 256 % 16) ∷ hex_digit (n / 16 % 16) ∷ hex_digit (n % 16) ∷ []
unfolding hex
hex_of_word n small =
    let e : n / 16 / 16 / 16 % 16 ≡ n / 4096 = omega arith in
    let f : n / 16 / 16 % 16 ≡ n / 256 % 16 = omega arith in
    rw (e, f) refl
