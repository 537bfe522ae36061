-- What parsing a word as a number says of the number of steps that the word names.
use Rattle.std.proofs.Common.{◌≡◌, ◌≢◌, ◌∷◌, [], ℕ, ◌<◌, ◌^◌, ◌==◌, Bool, Some, None, Result, Ok, Err, true, false, not, nat_lt, slice_index, refl, sym, ap}
use Rattle.std.proofs.Common.{subst, if◌then◌else◌}
use Rattle.std.proofs.lemmas.Bool.{eqb-true, ltb-true, lt-ltb}
use Rattle.std.specs.List.{list_all}
use Rattle.std.specs.Char.{digit_value}
use Rattle.std.specs.Option.{is_none}
use Rattle.std.specs.Result.{result_ok}
use Rattle.std.specs.Str.Parse.{AllDigits, IsNumeral, ParsesUnsigned, digits_value, without_leading_plus}
use Rattle.clap.specs.Words.{Text}
use Rattle.clap.proofs.WalkLemmas.{both}
use Rattle.vga.specs.Arguments.{begins_with_hyphen, count_of, is_bad_count, is_count}

-- only digits, as a test
digits_from : (word : Text) → list_all (λ d. nat_lt (digit_value d) 10) word ≡ true → AllDigits 10 word
digits_from [] e = tt
digits_from (d ∷ rest) e = let parts = both _ _ e in (ltb-true _ _ parts.0, digits_from rest parts.1)

digits_back : (word : Text) → AllDigits 10 word → list_all (λ d. nat_lt (digit_value d) 10) word ≡ true
digits_back [] all = refl
digits_back (d ∷ rest) all = rw (lt-ltb (digit_value d) 10 all.0) (digits_back rest all.1)

pub count_from : (word : Text) → is_count word ≡ true → IsNumeral 10 word × (digits_value 10 word < 2 ^ 32)
count_from word e =
    let parts = both _ _ e in
    let numeral = both _ _ parts.0 in
    ((ltb-true _ _ numeral.0, digits_from word numeral.1), ltb-true _ _ parts.1)

count_back : (word : Text) → IsNumeral 10 word × (digits_value 10 word < 2 ^ 32) → is_count word ≡ true
count_back word h = rw (lt-ltb _ _ h.0.0, digits_back word h.0.1, lt-ltb _ _ h.1) refl

-- the first byte of a number of steps is a digit
first_is_digit : (byte : ℕ) (rest : Text) → is_count (byte ∷ rest) ≡ true → nat_lt (digit_value byte) 10 ≡ true
first_is_digit byte rest e =
    let parts = both _ _ e in
    let numeral = both _ _ parts.0 in
    (both _ _ numeral.1).0

-- signs are no digits
plus_is_none : nat_lt (digit_value 43) 10 ≢ true
plus_is_none e = let bad : false ≡ true = e in cc

hyphen_is_none : nat_lt (digit_value 45) 10 ≢ true
hyphen_is_none e = let bad : false ≡ true = e in cc

-- a word that begins with a plus names none
pub signed_count : (word : Text) → (slice_index word 0 == 43) ≡ true → count_of word ≡ None
signed_count word plus = go word (is_count word) refl plus
  where
    go : (w : Text) (b : Bool) → is_count w ≡ b → (slice_index w 0 == 43) ≡ true → (if b then Some (digits_value 10 w) else None) ≡ None
    go w false is plus = refl
    go [] true is plus = cc
    go (byte ∷ rest) true is plus =
        absurd (plus_is_none (subst (λ (d : ℕ). nat_lt (digit_value d) 10 ≡ true) (eqb-true byte 43 plus) (first_is_digit byte rest is)))

-- another names what it is parsed as
pub unsigned_count : {E : Type 0} (word : Text) (r : Result ℕ E) → (slice_index word 0 == 43) ≡ false → ParsesUnsigned 32 10 word r →
    result_ok r ≡ count_of word
unsigned_count word (Ok n) unsigned parsed =
    let plain : without_leading_plus word ≡ word = rw unsigned refl in
    let counts : is_count word ≡ true = count_back word (subst (λ w. IsNumeral 10 w × (digits_value 10 w < 2 ^ 32)) plain parsed.0) in
    rw (counts, parsed.1, plain) refl
unsigned_count word (Err e) unsigned parsed = go (is_count word) refl
  where
    plain : without_leading_plus word ≡ word
    plain = rw unsigned refl

    go : (b : Bool) → is_count word ≡ b → None ≡ (if b then Some (digits_value 10 word) else None)
    go false is = refl
    go true is = absurd (parsed (subst (λ w. IsNumeral 10 w × (digits_value 10 w < 2 ^ 32)) (sym plain) (count_from word is)))

-- and a word that names none is a bad one
pub bad_count_is_none : (word : Text) → is_none (count_of word) ≡ is_bad_count (Some word)
bad_count_is_none word = go (is_count word)
  where
    go : (b : Bool) → is_none {T = ℕ} (if b then Some (digits_value 10 word) else None) ≡ not b
    go true = refl
    go false = refl

-- a word that names a number of steps is one
names_count : (word : Text) (n : ℕ) → count_of word ≡ Some n → is_count word ≡ true
names_count word n named = go (is_count word) refl named
  where
    go : (b : Bool) → is_count word ≡ b → (if b then Some (digits_value 10 word) else None) ≡ Some n → is_count word ≡ true
    go true is named = is
    go false is named = cc

-- so it is no bad one
pub good_count : (word : Text) (n : ℕ) → count_of word ≡ Some n → is_bad_count (Some word) ≡ false
good_count word n named = ap not (names_count word n named)

-- and it does not begin with a hyphen
pub count_is_plain : (word : Text) (n : ℕ) → count_of word ≡ Some n → begins_with_hyphen word ≡ false
count_is_plain [] n named = refl
count_is_plain (byte ∷ rest) n named = go (byte == 45) refl
  where
    go : (b : Bool) → (byte == 45) ≡ b → (byte == 45) ≡ false
    go false is = is
    go true is = absurd (hyphen_is_none (subst (λ (d : ℕ). nat_lt (digit_value d) 10 ≡ true) (eqb-true byte 45 is)
        (first_is_digit byte rest (names_count (byte ∷ rest) n named))))
