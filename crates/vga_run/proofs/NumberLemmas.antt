-- Numbers of steps that are counted up in decimal.
use Rattle.std.proofs.Common.{◌≡◌, ℕ, ◌+◌, ◌-◌, ◌/◌, ◌%◌, ◌^◌, ◌<◌, ◌≤◌, List, [], ◌∷◌, ◌++◌, length, take, drop, get_or, refl, sym, ◌∙◌, ap, inl, inr, arith}
use Rattle.std.proofs.Common.{length-append, take-append-drop}
use Rattle.std.specs.Prelude.{decimal, codes, slice_set}
use Rattle.std.proofs.lemmas.Bool.{cases_lt}
use Rattle.std.proofs.lemmas.Fmt.{decimal_step, decimal_digit, decimal_nonempty, length-decimal-le}
use Rattle.std.proofs.lemmas.List.{take-append-le, take_all, take_more_set, set-append_left, set-append_right, length-set, length-take, length-drop}
use Rattle.std.proofs.lemmas.List.{get_or_append_left}
use Rattle.std.proofs.lemmas.List.{get_or-append-add}
use Rattle.vga_run.specs.Report.{BeginsWithNumber, number_text}

-- what stands before the last of some bytes
before_last : (xs : List ℕ) (x : ℕ) → take (length (xs ++ x ∷ []) - 1) (xs ++ x ∷ []) ≡ xs
before_last xs x =
    let e : length (xs ++ x ∷ []) - 1 ≡ length xs = omega (arith, length-append xs (x ∷ [])) in
    rw e (take-append-le (length xs) xs (x ∷ []) (omega arith) ∙ take_all (length xs) xs (omega arith))

-- the next number has the same digits but the last, which is one more, if it is below 9
decimal_counted : (n : ℕ) → n + 1 < 2 ^ 64 → n % 10 < 9 → decimal (n + 1) ≡ take (length (decimal n) - 1) (decimal n) ++ (49 + n % 10) ∷ []
decimal_counted n small low = elim (cases_lt n 10) [
  | inl few ↦ one_digit few
  | inr many ↦ more_digits many
]
  where
    one_digit : n < 10 → decimal (n + 1) ≡ take (length (decimal n) - 1) (decimal n) ++ (49 + n % 10) ∷ []
    one_digit few =
        let e : 48 + (n + 1) ≡ 49 + n % 10 = omega arith in
        decimal_digit (n + 1) (omega arith) ∙ ap (λ d. d ∷ []) e ∙ sym (rw (decimal_digit n few) refl)

    more_digits : 10 ≤ n → decimal (n + 1) ≡ take (length (decimal n) - 1) (decimal n) ++ (49 + n % 10) ∷ []
    more_digits many =
        let e : (n + 1) / 10 ≡ n / 10 = omega arith in
        let f : 48 + (n + 1) % 10 ≡ 49 + n % 10 = omega arith in
        let prefix : take (length (decimal n) - 1) (decimal n) ≡ decimal (n / 10) =
        ap (λ l. take (length l - 1) l) (decimal_step n many (omega arith)) ∙ before_last (decimal (n / 10)) (48 + n % 10) in
        decimal_step (n + 1) (omega arith) small ∙ rw (e, f, prefix) refl

-- a number and a blank have two bytes or more
pub prefix_is_long : (text : List ℕ) (prefix n : ℕ) → BeginsWithNumber text prefix n → n < 2 ^ 64 → 2 ≤ prefix
unfolding number_text
prefix_is_long text prefix n h small = omega (arith, h.whole, length-append (decimal n) (codes " "), decimal_nonempty n small)

-- and 21 or less
pub prefix_is_short : (text : List ℕ) (prefix n : ℕ) → BeginsWithNumber text prefix n → n < 2 ^ 64 → prefix ≤ 21
unfolding number_text
prefix_is_short text prefix n h small = omega (arith, h.whole, length-append (decimal n) (codes " "), length-decimal-le 20 n (omega arith) (omega arith) small)

-- a line is no shorter
pub prefix_is_within : (text : List ℕ) (prefix n : ℕ) → BeginsWithNumber text prefix n → prefix ≤ length text
prefix_is_within text prefix n h = omega (arith, h.whole, ap length h.is, length-take prefix text)

-- a line has its number
pub number_first : (text : List ℕ) (prefix n : ℕ) → text ≡ number_text n → prefix ≡ length text → BeginsWithNumber text prefix n
number_first text prefix n e f = record { is = take_all prefix text (omega (arith, f)) ∙ e; whole = f ∙ ap length e }

-- the last digit of a number
last_digit : (n : ℕ) → n < 2 ^ 64 → get_or (decimal n) (length (decimal n) - 1) 0 ≡ 48 + n % 10
last_digit n small = elim (cases_lt n 10) [ inl few ↦ one_digit few | inr many ↦ more_digits many ]
  where
    one_digit : n < 10 → get_or (decimal n) (length (decimal n) - 1) 0 ≡ 48 + n % 10
    one_digit few = ap (λ (l : List ℕ). get_or l (length l - 1) 0) (decimal_digit n few) ∙ omega arith

    more_digits : 10 ≤ n → get_or (decimal n) (length (decimal n) - 1) 0 ≡ 48 + n % 10
    more_digits many =
        let prefix = decimal (n / 10) in
        let last = (48 + n % 10) ∷ [] in
        let at : length (prefix ++ last) - 1 ≡ length prefix + 0 = omega (arith, length-append prefix last) in
        ap (λ (l : List ℕ). get_or l (length l - 1) 0) (decimal_step n many small)
        ∙ ap (λ (i : ℕ). get_or (prefix ++ last) i 0) at ∙ get_or-append-add prefix last 0 0

-- it stands before the blank
pub digit_in_line : (text : List ℕ) (prefix n : ℕ) → BeginsWithNumber text prefix n → n < 2 ^ 64 → get_or text (prefix - 2) 0 ≡ 48 + n % 10
unfolding number_text
digit_in_line text prefix n h small =
    let digits = decimal n in
    let some = decimal_nonempty n small in
    let len : prefix ≡ length digits + 1 = h.whole ∙ length-append digits (codes " ") in
    let at : prefix - 2 ≡ length digits - 1 = omega arith in
    let parts : text ≡ (digits ++ codes " ") ++ drop prefix text =
    sym (take-append-drop prefix text) ∙ ap (λ (l : List ℕ). l ++ drop prefix text) h.is in
    ap (λ (i : ℕ). get_or text i 0) at ∙ ap (λ (l : List ℕ). get_or l (length digits - 1) 0) parts
    ∙ get_or_append_left (digits ++ codes " ") (drop prefix text) 0 (length digits - 1) (omega (arith, length-append digits (codes " ")))
    ∙ get_or_append_left digits (codes " ") 0 (length digits - 1) (omega arith) ∙ last_digit n small

-- a line keeps its number, whatever is put after it
pub number_behind : (text mid new rest : List ℕ) (prefix n : ℕ) → BeginsWithNumber text prefix n → mid ≡ take prefix text → new ≡ mid ++ rest → BeginsWithNumber new prefix n
number_behind text mid new rest prefix n h e f =
    let number : mid ≡ number_text n = e ∙ h.is in
    let len : prefix ≡ length mid = h.whole ∙ sym (ap length number) in
    record {
      is = rw f (take-append-le prefix mid rest (omega (arith, len)) ∙ take_all prefix mid (omega (arith, len)) ∙ number);
      whole = h.whole;
    }

-- the line with the next number, of which the last digit is written over
pub number_counted : (text new : List ℕ) (prefix n : ℕ) → BeginsWithNumber text prefix n → n + 1 < 2 ^ 64 → n % 10 < 9
    → new ≡ slice_set text (prefix - 2) (49 + n % 10) → BeginsWithNumber new prefix (n + 1)
unfolding number_text
number_counted text new prefix n h small low e =
    let digits = decimal n in
    let v = 49 + n % 10 in
    let i = length digits - 1 in
    let rest = drop prefix text in
    let some = decimal_nonempty n (omega arith) in
    let len : prefix ≡ length digits + 1 = h.whole ∙ length-append digits (codes " ") in
    let at : prefix - 2 ≡ i = omega arith in
    let parts : text ≡ (digits ++ codes " ") ++ rest = sym (take-append-drop prefix text) ∙ ap (λ (l : List ℕ). l ++ rest) h.is in
    let counted : slice_set digits i v ≡ decimal (n + 1) =
    sym (take_all (i + 1) (slice_set digits i v) (omega (arith, length-set digits i v))) ∙ take_more_set digits i v (omega arith)
    ∙ sym (decimal_counted n small low) in
    let long : length (decimal (n + 1)) ≡ length digits = ap length (sym counted) ∙ length-set digits i v in
    let whole : new ≡ number_text (n + 1) ++ rest =
    e ∙ ap (λ (k : ℕ). slice_set text k v) at ∙ ap (λ (l : List ℕ). slice_set l i v) parts
    ∙ set-append_left (digits ++ codes " ") rest i v (omega (arith, length-append digits (codes " ")))
    ∙ ap (λ (l : List ℕ). l ++ rest) (set-append_left digits (codes " ") i v (omega arith))
    ∙ ap (λ (l : List ℕ). (l ++ codes " ") ++ rest) counted in
    let prefix_len : prefix ≡ length (number_text (n + 1)) = omega (arith, len, long, length-append (decimal (n + 1)) (codes " ")) in
    record {
      is = ap (take prefix) whole ∙ take-append-le prefix (number_text (n + 1)) rest (omega (arith, prefix_len))
          ∙ take_all prefix (number_text (n + 1)) (omega (arith, prefix_len));
      whole = prefix_len;
    }

-- the same by the byte of the last digit
pub digit_counted : (text new : List ℕ) (prefix n digit : ℕ) → BeginsWithNumber text prefix n → n + 1 < 2 ^ 64 → digit ≡ get_or text (prefix - 2) 0 → digit < 57
    → new ≡ slice_set text (prefix - 2) (digit + 1) → BeginsWithNumber new prefix (n + 1)
digit_counted text new prefix n digit h small is low e =
    let value : digit ≡ 48 + n % 10 = is ∙ digit_in_line text prefix n h (omega arith) in
    number_counted text new prefix n h small (omega (arith, value)) (e ∙ ap (λ (v : ℕ). slice_set text (prefix - 2) v) (omega (arith, value)))

-- ---- the digit before the last

-- the digits of the next number, of which the last is written over
last_counted : (n : ℕ) → n + 1 < 2 ^ 64 → n % 10 < 9 → slice_set (decimal n) (length (decimal n) - 1) (49 + n % 10) ≡ decimal (n + 1)
last_counted n small low =
    let digits = decimal n in
    let v = 49 + n % 10 in
    let i = length digits - 1 in
    let some = decimal_nonempty n (omega arith) in
    sym (take_all (i + 1) (slice_set digits i v) (omega (arith, length-set digits i v))) ∙ take_more_set digits i v (omega arith)
    ∙ sym (decimal_counted n small low)

-- a number of two digits or more
two_digits : (n : ℕ) → 2 ≤ length (decimal n) → 10 ≤ n
two_digits n long = elim (cases_lt n 10) [
  | inl few ↦ let l = ap length (decimal_digit n few) in absurd (omega arith)
  | inr many ↦ many
]

-- two bytes in the place of a digit and the 9 after it
nine_counted : (digits more rest : List ℕ) (v : ℕ) → 0 < length digits → slice_set digits (length digits - 1) v ≡ more →
    slice_set (slice_set (((digits ++ 57 ∷ []) ++ codes " ") ++ rest) (length digits - 1) v) (length digits) 48 ≡ ((more ++ 48 ∷ []) ++ codes " ") ++ rest
nine_counted digits more rest v some e =
    let i = length digits - 1 in
    let whole = (digits ++ 57 ∷ []) ++ codes " " in
    let long : length (digits ++ 57 ∷ []) ≡ length digits + 1 = length-append digits (57 ∷ []) in
    let same : length more ≡ length digits = ap length (sym e) ∙ length-set digits i v in
    let first : slice_set (whole ++ rest) i v ≡ ((more ++ 57 ∷ []) ++ codes " ") ++ rest =
    set-append_left whole rest i v (omega (arith, length-append (digits ++ 57 ∷ []) (codes " "), long))
    ∙ ap (λ (l : List ℕ). l ++ rest) (set-append_left (digits ++ 57 ∷ []) (codes " ") i v (omega (arith, long)))
    ∙ ap (λ (l : List ℕ). (l ++ codes " ") ++ rest) (set-append_left digits (57 ∷ []) i v (omega arith))
    ∙ ap (λ (l : List ℕ). ((l ++ 57 ∷ []) ++ codes " ") ++ rest) e in
    let j = length digits in
    let longer : length (more ++ 57 ∷ []) ≡ length digits + 1 = length-append more (57 ∷ []) ∙ omega (arith, same) in
    let zero : j - j ≡ 0 = omega arith in
    ap (λ (l : List ℕ). slice_set l j 48) first
    ∙ set-append_left ((more ++ 57 ∷ []) ++ codes " ") rest j 48 (omega (arith, length-append (more ++ 57 ∷ []) (codes " "), longer))
    ∙ ap (λ (l : List ℕ). l ++ rest) (set-append_left (more ++ 57 ∷ []) (codes " ") j 48 (omega (arith, longer)))
    ∙ ap (λ (l : List ℕ). (l ++ codes " ") ++ rest) (set-append_right more (57 ∷ []) j j 48 same (omega arith))
    ∙ ap (λ (k : ℕ). ((more ++ slice_set (57 ∷ []) k 48) ++ codes " ") ++ rest) zero

-- after a digit below 9 a last 9 becomes 0, and the digit one more
pub tens_counted : (text mid new : List ℕ) (prefix n digit : ℕ) → BeginsWithNumber text prefix n → n + 1 < 2 ^ 64 → 3 ≤ prefix → 57 ≤ get_or text (prefix - 2) 0 →
    digit ≡ get_or text (prefix - 3) 0 → digit < 57
    → mid ≡ slice_set text (prefix - 3) (digit + 1) → new ≡ slice_set mid (prefix - 2) 48 → BeginsWithNumber new prefix (n + 1)
unfolding number_text
tens_counted text mid new prefix n digit h small long nine is low e_mid e_new =
    let q = n / 10 in
    let digits = decimal q in
    let rest = drop prefix text in
    let ends : n % 10 ≡ 9 = omega (arith, digit_in_line text prefix n h (omega arith)) in
    let many = two_digits n (omega (arith, h.whole, length-append (decimal n) (codes " "))) in
    let last : decimal n ≡ digits ++ 57 ∷ [] = decimal_step n many (omega arith) ∙ ap (λ (v : ℕ). digits ++ v ∷ []) (omega (arith, ends)) in
    let some = decimal_nonempty q (omega arith) in
    let len : prefix ≡ length digits + 2 =
    omega (arith, h.whole, length-append (decimal n) (codes " "), ap length last, length-append digits (57 ∷ [])) in
    let parts : text ≡ ((digits ++ 57 ∷ []) ++ codes " ") ++ rest =
    sym (take-append-drop prefix text) ∙ ap (λ (l : List ℕ). l ++ rest) (h.is ∙ ap (λ (l : List ℕ). l ++ codes " ") last) in
    let at : prefix - 3 ≡ length digits - 1 = omega (arith, len) in
    let behind : prefix - 2 ≡ length digits = omega (arith, len) in
    let value : digit ≡ 48 + q % 10 =
    is ∙ ap (λ (i : ℕ). get_or text i 0) at ∙ ap (λ (l : List ℕ). get_or l (length digits - 1) 0) parts
    ∙ get_or_append_left ((digits ++ 57 ∷ []) ++ codes " ") rest 0 (length digits - 1)
    (omega (arith, length-append (digits ++ 57 ∷ []) (codes " "), length-append digits (57 ∷ [])))
    ∙ get_or_append_left (digits ++ 57 ∷ []) (codes " ") 0 (length digits - 1) (omega (arith, length-append digits (57 ∷ [])))
    ∙ get_or_append_left digits (57 ∷ []) 0 (length digits - 1) (omega arith) ∙ last_digit q (omega arith) in
    let counted : slice_set digits (length digits - 1) (49 + q % 10) ≡ decimal (q + 1) = last_counted q (omega arith) (omega (arith, value)) in
    let next : decimal (n + 1) ≡ decimal (q + 1) ++ 48 ∷ [] =
    decimal_step (n + 1) (omega arith) small ∙ ap (λ (m : ℕ). decimal m ++ (48 + (n + 1) % 10) ∷ []) (omega (arith, ends))
    ∙ ap (λ (v : ℕ). decimal (q + 1) ++ v ∷ []) (omega (arith, ends)) in
    let whole : new ≡ number_text (n + 1) ++ rest =
    e_new ∙ ap (λ (i : ℕ). slice_set mid i 48) behind ∙ ap (λ (l : List ℕ). slice_set l (length digits) 48) e_mid
    ∙ ap (λ (i : ℕ). slice_set (slice_set text i (digit + 1)) (length digits) 48) at
    ∙ ap (λ (v : ℕ). slice_set (slice_set text (length digits - 1) v) (length digits) 48) (omega (arith, value))
    ∙ ap (λ (l : List ℕ). slice_set (slice_set l (length digits - 1) (49 + q % 10)) (length digits) 48) parts
    ∙ nine_counted digits (decimal (q + 1)) rest (49 + q % 10) some counted
    ∙ ap (λ (l : List ℕ). (l ++ codes " ") ++ rest) (sym next) in
    let same : length (decimal (q + 1)) ≡ length digits = ap length (sym counted) ∙ length-set digits (length digits - 1) (49 + q % 10) in
    let prefix_len : prefix ≡ length (number_text (n + 1)) =
    omega (arith, len, length-append (decimal (n + 1)) (codes " "), ap length next, length-append (decimal (q + 1)) (48 ∷ []), same) in
    record {
      is = ap (take prefix) whole ∙ take-append-le prefix (number_text (n + 1)) rest (omega (arith, prefix_len))
          ∙ take_all prefix (number_text (n + 1)) (omega (arith, prefix_len));
      whole = prefix_len;
    }

-- three bytes in the place of the last three of a line
last_three : (tail : List ℕ) (i j k a b c : ℕ) → length tail ≡ 3 → i ≡ 0 → j ≡ 1 → k ≡ 2 → slice_set (slice_set (slice_set tail i a) j b) k c ≡ a ∷ b ∷ c ∷ []
last_three [] i j k a b c len ei ej ek = absurd (omega arith)
last_three (x ∷ []) i j k a b c len ei ej ek = absurd (omega arith)
last_three (x ∷ y ∷ []) i j k a b c len ei ej ek = absurd (omega arith)
last_three (x ∷ y ∷ z ∷ []) i j k a b c len ei ej ek = rw (ei, ej, ek) refl
last_three (x ∷ y ∷ z ∷ w ∷ tail) i j k a b c len ei ej ek = absurd (omega arith)

pub three_put : (text one two three : List ℕ) (prefix a b c : ℕ) → length text ≡ prefix + 3 → one ≡ slice_set text prefix a → two ≡ slice_set one (prefix + 1) b →
    three ≡ slice_set two (prefix + 2) c → three ≡ take prefix text ++ (a ∷ b ∷ c ∷ [])
three_put text one two three prefix a b c len e_one e_two e_three =
    let head = take prefix text in
    let tail = drop prefix text in
    let head_len : length head ≡ prefix = length-take prefix text ∙ omega (arith, len) in
    let tail_len : length tail ≡ 3 = length-drop prefix text ∙ omega (arith, len) in
    let first : one ≡ head ++ slice_set tail (prefix - prefix) a =
    e_one ∙ ap (λ (l : List ℕ). slice_set l prefix a) (sym (take-append-drop prefix text)) ∙ set-append_right head tail prefix prefix a head_len (omega arith) in
    let second : two ≡ head ++ slice_set (slice_set tail (prefix - prefix) a) (prefix + 1 - prefix) b =
    e_two ∙ ap (λ (l : List ℕ). slice_set l (prefix + 1) b) first
    ∙ set-append_right head (slice_set tail (prefix - prefix) a) prefix (prefix + 1) b head_len (omega arith) in
    e_three ∙ ap (λ (l : List ℕ). slice_set l (prefix + 2) c) second
    ∙ set-append_right head (slice_set (slice_set tail (prefix - prefix) a) (prefix + 1 - prefix) b) prefix (prefix + 2) c head_len (omega arith)
    ∙ ap (λ (l : List ℕ). head ++ l)
    (last_three tail (prefix - prefix) (prefix + 1 - prefix) (prefix + 2 - prefix) a b c tail_len (omega arith) (omega arith) (omega arith))
