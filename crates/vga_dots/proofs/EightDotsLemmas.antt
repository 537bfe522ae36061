-- Eight dots as words: the masks, the bytes that are chosen by them, and the dots in a row.
use Rattle.std.proofs.Common.{◌≡◌, ℕ, zero, suc, ◌+◌, ◌-◌, ◌*◌, ◌/◌, ◌%◌, ◌^◌, ◌<◌, ◌≤◌, inl, inr, ⊎_elim, refl, sym, ap, ◌∙◌, arith}
use Rattle.std.proofs.Common.{Bool, true, false, List, [], ◌∷◌, bit_and, bit_xor, ◌==◌, if◌then◌else◌, slice_index, min}
use Rattle.std.specs.Int.{bit_at}
use Rattle.std.proofs.lemmas.Bool.{cases_lt, agree_below_at, eqb-true}
use Rattle.std.proofs.lemmas.Bool.Decides.{nat_tests}
use Rattle.std.proofs.lemmas.Nat.Bits.{bit_at-zero}
use Rattle.std.specs.Int.Bits.{xor_zero_r}
use Rattle.vga_bits.specs.Bits.{is_set}
use Rattle.vga_bits.specs.Words.{plane_byte_in_word, plane_bit_in_word}
use Rattle.vga_bits.proofs.BitLemmas.{byte_from_bits, byte_bits, bit_at_shr, bit_at_cut, ones_byte}
use Rattle.vga_bits.proofs.WordLemmas.{byte_below, word_bit_byte, word_bit_lt, word_bit_and, word_bit_xor}
use Rattle.vga_dots.specs.declared.eight_dots.EightDots.{EightDots}
use Rattle.vga_dots.specs.declared.eight_dots.TheConstants.{FIRST_MASKS, MIDDLE_MASKS, LAST_MASKS}
use Rattle.vga_dots.specs.Row.{IsDotPut, AreDotsPut}
use Rattle.vga_dots.specs.EightDots.{AreEightDotsOfColour, AreBytesPut, changed_dots}

-- ---- what a mask chooses

-- a byte of a mask: all bits, or none
abbrev all_or_none : Bool → ℕ
all_or_none v = if v then 255 else 0

one_chosen : (x y m : ℕ) → x < 2 → m ≡ 1 → (y + min m x) % 2 ≡ (y + x) % 2
one_chosen x y m small e = grind (arith, nat_tests)

none_chosen : (x y m : ℕ) → y < 2 → m ≡ 0 → (y + min m x) % 2 ≡ y
none_chosen x y m few e = grind (arith, nat_tests)

bit_chosen : (m change ground p i : ℕ) → plane_bit_in_word (bit_xor ground (bit_and m change)) p i
    ≡ (plane_bit_in_word ground p i + min (plane_bit_in_word m p i) (plane_bit_in_word change p i)) % 2
bit_chosen m change ground p i =
    word_bit_xor ground (bit_and m change) p i ∙ ap (λ n. (plane_bit_in_word ground p i + n) % 2) (word_bit_and m change p i)

mask_bit : (m p i n : ℕ) → plane_byte_in_word p m ≡ n → i < 8 → plane_bit_in_word m p i ≡ bit_at n i
mask_bit m p i n e within = word_bit_byte m p i within ∙ ap (λ x. bit_at x i) e

-- two numbers with the same bits in a byte have the same byte
same_byte : (x y p : ℕ) → ((i : ℕ) → i < 8 → plane_bit_in_word x p i ≡ plane_bit_in_word y p i) → plane_byte_in_word p x ≡ plane_byte_in_word p y
same_byte x y p same =
    byte_from_bits (plane_byte_in_word p x) (bit_at (plane_byte_in_word p y)) (byte_below p x) (λ i l. sym (word_bit_byte x p i l) ∙ same i l ∙ word_bit_byte y p i l)
    ∙ byte_bits (plane_byte_in_word p y) (byte_below p y)

pub byte_chosen : (m change ground p : ℕ) (v : Bool) → plane_byte_in_word p m ≡ all_or_none v
    → plane_byte_in_word p (bit_xor ground (bit_and m change)) ≡ (if v then plane_byte_in_word p (bit_xor ground change) else plane_byte_in_word p ground)
byte_chosen m change ground p true e = same_byte (bit_xor ground (bit_and m change)) (bit_xor ground change) p
    (λ i l. bit_chosen m change ground p i
    ∙ one_chosen (plane_bit_in_word change p i) (plane_bit_in_word ground p i) (plane_bit_in_word m p i) (word_bit_lt change p i) (mask_bit m p i 255 e l ∙ ones_byte i l)
    ∙ sym (word_bit_xor ground change p i))
byte_chosen m change ground p false e = same_byte (bit_xor ground (bit_and m change)) ground p
    (λ i l. bit_chosen m change ground p i
    ∙ none_chosen (plane_bit_in_word change p i) (plane_bit_in_word ground p i) (plane_bit_in_word m p i) (word_bit_lt ground p i) (mask_bit m p i 0 e l ∙ bit_at-zero i))

-- ---- what changes eight dots into others

-- a bit that is changed by what it differs in is the other
other_bit : (x y : ℕ) → x < 2 → y < 2 → (x + (x + y) % 2) % 2 ≡ y
other_bit x y small few = grind (arith, nat_tests)

other_byte : (x y p : ℕ) → plane_byte_in_word p (bit_xor x (bit_xor x y)) ≡ plane_byte_in_word p y
other_byte x y p = same_byte (bit_xor x (bit_xor x y)) y p
    (λ i l. word_bit_xor x (bit_xor x y) p i ∙ ap (λ n. (plane_bit_in_word x p i + n) % 2) (word_bit_xor x y p i)
    ∙ other_bit (plane_bit_in_word x p i) (plane_bit_in_word y p i) (word_bit_lt x p i) (word_bit_lt y p i))

pub changed_to_others : (dots others : EightDots) (c : List ℕ) → AreEightDotsOfColour others c
    → AreEightDotsOfColour (changed_dots dots (changed_dots dots others)) c
changed_to_others dots others c is = record {
  first = λ p l. other_byte dots.first others.first p ∙ is.first p l;
  middle = λ p l. other_byte dots.middle others.middle p ∙ is.middle p l;
  last = λ p l. other_byte dots.last others.last p ∙ is.last p l;
}

pub unchanged : (dots : EightDots) (c : List ℕ) → AreEightDotsOfColour dots c → AreEightDotsOfColour (changed_dots dots (record { first = 0; middle = 0; last = 0 })) c
unchanged dots c is = record {
  first = λ p l. ap (plane_byte_in_word p) (xor_zero_r dots.first) ∙ is.first p l;
  middle = λ p l. ap (plane_byte_in_word p) (xor_zero_r dots.middle) ∙ is.middle p l;
  last = λ p l. ap (plane_byte_in_word p) (xor_zero_r dots.last) ∙ is.last p l;
}

-- ---- the masks

-- the bits of a number, shifted down by s and cut to w of them
shifted_bit : (n s w j : ℕ) → j < w → is_set (n / 2 ^ s % 2 ^ w) j ≡ is_set n (s + j)
shifted_bit n s w j within = ap (λ b. b == 1) (bit_at_cut (n / 2 ^ s) w j within ∙ bit_at_shr n s j)

abbrev first_byte : ℕ → ℕ → Bool
first_byte n p = plane_byte_in_word p (slice_index FIRST_MASKS n) == all_or_none (is_set n (2 - p / 3))

pub first_mask : (lit p : ℕ) → lit < 512 → p < 8 → plane_byte_in_word p (slice_index FIRST_MASKS (lit / 2 ^ 6)) ≡ all_or_none (is_set lit (8 - p / 3))
first_mask lit p few within =
    let n = lit / 2 ^ 6 in
    let small : n < 8 = omega arith in
    let row : (n * 8 + p) / 8 ≡ n = omega arith in
    let column : (n * 8 + p) % 8 ≡ p = omega arith in
    let cut : n ≡ n % 2 ^ 3 = omega arith in
    let place : 6 + (2 - p / 3) ≡ 8 - p / 3 = omega arith in
    eqb-true _ _ (sym (ap (λ q. first_byte q p) row) ∙ sym (ap (first_byte ((n * 8 + p) / 8)) column)
    ∙ agree_below_at (λ k. first_byte (k / 8) (k % 8)) (λ _. true) 64 (n * 8 + p) refl (omega (arith, small)))
    ∙ ap all_or_none (ap (λ m. is_set m (2 - p / 3)) cut ∙ shifted_bit lit 6 3 (2 - p / 3) (omega arith) ∙ ap (is_set lit) place)

abbrev middle_byte : ℕ → ℕ → Bool
middle_byte n p = plane_byte_in_word p (slice_index MIDDLE_MASKS n) == all_or_none (is_set n (5 - (8 + p) / 3))

pub middle_mask : (lit p : ℕ) → p < 8 → plane_byte_in_word p (slice_index MIDDLE_MASKS (lit / 2 ^ 3 % 16)) ≡ all_or_none (is_set lit (8 - (8 + p) / 3))
middle_mask lit p within =
    let n = lit / 2 ^ 3 % 16 in
    let row : (n * 8 + p) / 8 ≡ n = omega arith in
    let column : (n * 8 + p) % 8 ≡ p = omega arith in
    let place : 3 + (5 - (8 + p) / 3) ≡ 8 - (8 + p) / 3 = omega arith in
    eqb-true _ _ (sym (ap (λ q. middle_byte q p) row) ∙ sym (ap (middle_byte ((n * 8 + p) / 8)) column)
    ∙ agree_below_at (λ k. middle_byte (k / 8) (k % 8)) (λ _. true) 128 (n * 8 + p) refl (omega arith))
    ∙ ap all_or_none (shifted_bit lit 3 4 (5 - (8 + p) / 3) (omega arith) ∙ ap (is_set lit) place)

abbrev last_byte : ℕ → ℕ → Bool
last_byte n p = plane_byte_in_word p (slice_index LAST_MASKS n) == all_or_none (is_set n (7 - (16 + p) / 3))

pub last_mask : (lit p : ℕ) → p < 8 → plane_byte_in_word p (slice_index LAST_MASKS (lit / 2 ^ 1 % 8)) ≡ all_or_none (is_set lit (8 - (16 + p) / 3))
last_mask lit p within =
    let n = lit / 2 ^ 1 % 8 in
    let row : (n * 8 + p) / 8 ≡ n = omega arith in
    let column : (n * 8 + p) % 8 ≡ p = omega arith in
    let place : 1 + (7 - (16 + p) / 3) ≡ 8 - (16 + p) / 3 = omega arith in
    eqb-true _ _ (sym (ap (λ q. last_byte q p) row) ∙ sym (ap (last_byte ((n * 8 + p) / 8)) column)
    ∙ agree_below_at (λ k. last_byte (k / 8) (k % 8)) (λ _. true) 64 (n * 8 + p) refl (omega arith))
    ∙ ap all_or_none (shifted_bit lit 1 3 (7 - (16 + p) / 3) (omega arith) ∙ ap (is_set lit) place)

-- ---- the dots

-- some dots, and some more after them
pub dots_joined : (n m at : ℕ) (f g : ℕ → List ℕ) (row0 row1 row2 : List ℕ) → AreDotsPut n at f row0 row1 → AreDotsPut m (at + n) g row1 row2
    → ((i : ℕ) → i < m → g i ≡ f (n + i)) → AreDotsPut (n + m) at f row0 row2
dots_joined n m at f g row0 row1 row2 before now same = record {
  inside = λ i j li lj. ⊎_elim
      (λ (l : i < n). now.outside (3 * (at + i) + j) (inl (omega arith)) ∙ before.inside i j l lj)
      (λ (l : n ≤ i).
      let place : 3 * (at + i) + j ≡ 3 * (at + n + (i - n)) + j = omega arith in
      let z : n + (i - n) ≡ i = omega arith in
      ap (slice_index row2) place ∙ now.inside (i - n) j (omega arith) lj ∙ ap (λ c. slice_index c j) (same (i - n) (omega arith) ∙ ap f z))
      (cases_lt i n);
  outside = λ k o. now.outside k (⊎_elim (λ l. inl (omega arith)) (λ l. inr (omega arith)) o)
      ∙ before.outside k (⊎_elim (λ l. inl (omega arith)) (λ l. inr (omega arith)) o);
}

-- one of two colours, by their bytes
either : (v : Bool) (x y : ℕ) (f b : List ℕ) (j : ℕ) → x ≡ slice_index f j → y ≡ slice_index b j → (if v then x else y) ≡ slice_index (if v then f else b) j
either true x y f b j e g = e
either false x y f b j e g = g

-- 24 bytes are eight dots
pub eight_put : (lit at first middle last : ℕ) (fore back : EightDots) (f b row0 row1 row2 row3 : List ℕ)
    → AreEightDotsOfColour fore f → AreEightDotsOfColour back b
    → ((p : ℕ) → p < 8 → plane_byte_in_word p first ≡ (if is_set lit (8 - p / 3) then plane_byte_in_word p fore.first else plane_byte_in_word p back.first))
    → ((p : ℕ) → p < 8 → plane_byte_in_word p middle
    ≡ (if is_set lit (8 - (8 + p) / 3) then plane_byte_in_word p fore.middle else plane_byte_in_word p back.middle))
    → ((p : ℕ) → p < 8 → plane_byte_in_word p last
    ≡ (if is_set lit (8 - (16 + p) / 3) then plane_byte_in_word p fore.last else plane_byte_in_word p back.last))
    → AreBytesPut 8 (3 * at) (λ p. plane_byte_in_word p first) row0 row1 → AreBytesPut 8 (3 * at + 8) (λ p. plane_byte_in_word p middle) row1 row2
    → AreBytesPut 8 (3 * at + 16) (λ p. plane_byte_in_word p last) row2 row3
    → AreDotsPut 8 at (λ i. if is_set lit (8 - i) then f else b) row0 row3
eight_put lit at first middle last fore back f b row0 row1 row2 row3 is_fore is_back is_first is_middle is_last one two three = record {
  inside = λ i j li lj.
      let q = 3 * i + j in
      let place : 3 * (at + i) + j ≡ 3 * at + q = omega arith in
      let dot : q / 3 ≡ i = omega arith in
      let byte : q % 3 ≡ j = omega arith in
      let colours : (m : ℕ) → m ≡ q → slice_index (if is_set lit (8 - m / 3) then f else b) (m % 3) ≡ slice_index (if is_set lit (8 - i) then f else b) j =
      λ m e. ap (λ k. slice_index (if is_set lit (8 - k / 3) then f else b) (k % 3)) e
      ∙ ap (λ n. slice_index (if is_set lit (8 - n) then f else b) (q % 3)) dot ∙ ap (slice_index (if is_set lit (8 - i) then f else b)) byte in
      ap (slice_index row3) place ∙ ⊎_elim
      (λ (l : q < 8).
      three.outside (3 * at + q) (inl (omega arith)) ∙ two.outside (3 * at + q) (inl (omega arith)) ∙ one.inside q l ∙ is_first q l
      ∙ either (is_set lit (8 - q / 3)) _ _ f b (q % 3) (is_fore.first q l) (is_back.first q l) ∙ colours q refl)
      (λ (m : 8 ≤ q). ⊎_elim
      (λ (l : q < 16).
      let p = q - 8 in
      let few : p < 8 = omega arith in
      let spot : 3 * at + q ≡ 3 * at + 8 + p = omega arith in
      three.outside (3 * at + q) (inl (omega arith)) ∙ ap (slice_index row2) spot ∙ two.inside p few ∙ is_middle p few
      ∙ either (is_set lit (8 - (8 + p) / 3)) _ _ f b ((8 + p) % 3) (is_fore.middle p few) (is_back.middle p few) ∙ colours (8 + p) (omega arith))
      (λ (h : 16 ≤ q).
      let p = q - 16 in
      let few : p < 8 = omega arith in
      let spot : 3 * at + q ≡ 3 * at + 16 + p = omega arith in
      ap (slice_index row3) spot ∙ three.inside p few ∙ is_last p few
      ∙ either (is_set lit (8 - (16 + p) / 3)) _ _ f b ((16 + p) % 3) (is_fore.last p few) (is_back.last p few) ∙ colours (16 + p) (omega arith))
      (cases_lt q 16))
      (cases_lt q 8);
  outside = λ k o. three.outside k (⊎_elim (λ l. inl (omega arith)) (λ l. inr (omega arith)) o)
      ∙ two.outside k (⊎_elim (λ l. inl (omega arith)) (λ l. inr (omega arith)) o)
      ∙ one.outside k (⊎_elim (λ l. inl (omega arith)) (λ l. inr (omega arith)) o);
}

-- one dot of the colour
one_byte : (word : ℕ) (c : List ℕ) (j : ℕ) → j < 3 → ((p : ℕ) → p < 8 → plane_byte_in_word p word ≡ slice_index c (p % 3))
    → slice_index (word % 256 ∷ word / 256 % 256 ∷ word / 65536 % 256 ∷ []) j ≡ slice_index c j
one_byte word c zero l is = let e : word % 256 ≡ plane_byte_in_word 0 word = omega arith in e ∙ is 0 (omega arith)
one_byte word c (suc zero) l is = is 1 (omega arith)
one_byte word c (suc (suc zero)) l is = is 2 (omega arith)
one_byte word c (suc (suc (suc j))) l is = absurd (omega arith)

pub one_put : (word : ℕ) (c : List ℕ) (at : ℕ) (row0 row1 : List ℕ) → ((p : ℕ) → p < 8 → plane_byte_in_word p word ≡ slice_index c (p % 3))
    → IsDotPut row0 row1 at (word % 256 ∷ word / 256 % 256 ∷ word / 65536 % 256 ∷ []) → AreDotsPut 1 at (λ i. c) row0 row1
one_put word c at row0 row1 is put = record {
  inside = λ i j li lj. let place : 3 * (at + i) + j ≡ 3 * at + j = omega arith in ap (slice_index row1) place ∙ put.inside j lj ∙ one_byte word c j lj is;
  outside = λ k o. put.outside k (⊎_elim (λ l. inl l) (λ l. inr (omega arith)) o);
}

-- ---- the words of colours

repeated : (c : List ℕ) (w x y z p : ℕ) → x ≡ slice_index c 0 → y ≡ slice_index c 1 → z ≡ slice_index c 2 → x < 256 → y < 256 → z < 256
    → w ≡ x + 256 * y + 65536 * z + 16777216 * x + 4294967296 * y + 1099511627776 * z + 281474976710656 * x + 72057594037927936 * y
    → p < 8 → plane_byte_in_word p w ≡ slice_index c (p % 3)
repeated c w x y z zero ex ey ez lx ly lz e l = let b : plane_byte_in_word 0 w ≡ x = omega arith in b ∙ ex
repeated c w x y z (suc zero) ex ey ez lx ly lz e l = let b : plane_byte_in_word 1 w ≡ y = omega arith in b ∙ ey
repeated c w x y z (suc (suc zero)) ex ey ez lx ly lz e l = let b : plane_byte_in_word 2 w ≡ z = omega arith in b ∙ ez
repeated c w x y z (suc (suc (suc zero))) ex ey ez lx ly lz e l = let b : plane_byte_in_word 3 w ≡ x = omega arith in b ∙ ex
repeated c w x y z (suc (suc (suc (suc zero)))) ex ey ez lx ly lz e l = let b : plane_byte_in_word 4 w ≡ y = omega arith in b ∙ ey
repeated c w x y z (suc (suc (suc (suc (suc zero))))) ex ey ez lx ly lz e l = let b : plane_byte_in_word 5 w ≡ z = omega arith in b ∙ ez
repeated c w x y z (suc (suc (suc (suc (suc (suc zero)))))) ex ey ez lx ly lz e l = let b : plane_byte_in_word 6 w ≡ x = omega arith in b ∙ ex
repeated c w x y z (suc (suc (suc (suc (suc (suc (suc zero))))))) ex ey ez lx ly lz e l = let b : plane_byte_in_word 7 w ≡ y = omega arith in b ∙ ey
repeated c w x y z (suc (suc (suc (suc (suc (suc (suc (suc p)))))))) ex ey ez lx ly lz e l = absurd (omega arith)

pub repeated_bytes : (x y z p : ℕ) → x < 256 → y < 256 → z < 256 → p < 8
    → plane_byte_in_word p (x + 256 * y + 65536 * z + 16777216 * (x + 256 * y + 65536 * z) + 281474976710656 * ((x + 256 * y + 65536 * z) % 65536))
    ≡ slice_index (x ∷ y ∷ z ∷ []) (p % 3)
repeated_bytes x y z p lx ly lz l =
    let rest : (x + 256 * y + 65536 * z) % 65536 ≡ x + 256 * y = omega arith in
    repeated (x ∷ y ∷ z ∷ []) _ x y z p refl refl refl lx ly lz (omega (arith, rest)) l

-- what holds of the three bytes of a colour holds of each
by_three : (f g : ℕ → ℕ) → f 0 ≡ g 0 → f 1 ≡ g 1 → f 2 ≡ g 2 → (j : ℕ) → j < 3 → f j ≡ g j
by_three f g e0 e1 e2 zero l = e0
by_three f g e0 e1 e2 (suc zero) l = e1
by_three f g e0 e1 e2 (suc (suc zero)) l = e2
by_three f g e0 e1 e2 (suc (suc (suc j))) l = absurd (omega arith)

pub dots_made : (c : List ℕ) (first middle last : ℕ)
    → ((p : ℕ) → p < 8 → plane_byte_in_word p first ≡ slice_index (slice_index c 0 ∷ slice_index c 1 ∷ slice_index c 2 ∷ []) (p % 3))
    → ((p : ℕ) → p < 8 → plane_byte_in_word p middle ≡ slice_index (slice_index c 2 ∷ slice_index c 0 ∷ slice_index c 1 ∷ []) (p % 3))
    → ((p : ℕ) → p < 8 → plane_byte_in_word p last ≡ slice_index (slice_index c 1 ∷ slice_index c 2 ∷ slice_index c 0 ∷ []) (p % 3))
    → AreEightDotsOfColour (record { first = first; middle = middle; last = last }) c
dots_made c first middle last is_first is_middle is_last = record {
  first = λ p l. is_first p l ∙ by_three (slice_index (slice_index c 0 ∷ slice_index c 1 ∷ slice_index c 2 ∷ [])) (slice_index c) refl refl refl (p % 3) (omega arith);
  middle = λ p l. let turn : (p % 3 + 2) % 3 ≡ (8 + p) % 3 = omega arith in
      is_middle p l ∙ by_three (slice_index (slice_index c 2 ∷ slice_index c 0 ∷ slice_index c 1 ∷ [])) (λ j. slice_index c ((j + 2) % 3)) refl refl refl (p % 3) (omega arith)
      ∙ ap (slice_index c) turn;
  last = λ p l. let turn : (p % 3 + 1) % 3 ≡ (16 + p) % 3 = omega arith in
      is_last p l ∙ by_three (slice_index (slice_index c 1 ∷ slice_index c 2 ∷ slice_index c 0 ∷ [])) (λ j. slice_index c ((j + 1) % 3)) refl refl refl (p % 3) (omega arith)
      ∙ ap (slice_index c) turn;
}

-- ---- a line of a glyph

-- and the ninth
pub nine_put : (lit at : ℕ) (f b c row0 row1 row2 : List ℕ) → AreDotsPut 8 at (λ i. if is_set lit (8 - i) then f else b) row0 row1
    → AreDotsPut 1 (at + 8) (λ i. c) row1 row2 → c ≡ (if is_set lit 0 then f else b) → AreDotsPut 9 at (λ i. if is_set lit (8 - i) then f else b) row0 row2
nine_put lit at f b c row0 row1 row2 eight one e =
    dots_joined 8 1 at (λ i. if is_set lit (8 - i) then f else b) (λ i. c) row0 row1 row2 eight one
    (λ i l. let z : 0 ≡ 8 - (8 + i) = omega arith in e ∙ ap (λ n. if is_set lit n then f else b) z)

-- the colour of the ninth
pub last_lit : (lit : ℕ) (f b : List ℕ) → lit % 2 ≡ 1 → f ≡ (if is_set lit 0 then f else b)
last_lit lit f b e = let bit : bit_at lit 0 ≡ 1 = omega arith in sym (ap (λ n. if n == 1 then f else b) bit)

pub last_unlit : (lit : ℕ) (f b : List ℕ) → lit % 2 ≡ 0 → b ≡ (if is_set lit 0 then f else b)
last_unlit lit f b e = let bit : bit_at lit 0 ≡ 0 = omega arith in sym (ap (λ n. if n == 1 then f else b) bit)
