-- Lines and words.
use Rattle.std.proofs.Common.{◌≡◌, ℕ, ◌+◌, ◌<◌, ◌≤◌, Bool, true, false, List, [], ◌∷◌, length, drop, take, get_or, refl, sym, ap, ◌∙◌, arith, filter, suc}
use Rattle.std.proofs.Common.{add-one, drop-cons, ⊎_elim}
use Rattle.std.proofs.lemmas.List.{take_all, drop_all, length-take-le}
use Rattle.std.specs.List.{slice_split, position_or_len, after_first}
use Rattle.std.proofs.lemmas.List.Sums.{position_or_len_is, fails_before_first, passes_at_first}
use Rattle.std.proofs.lemmas.List.Splits.{slice_split-cons_yes, slice_split_first, slice_split_none}
use Rattle.std.proofs.lemmas.Bool.{cases_lt}
use Rattle.vga_script.specs.Tokens.{is_blank, has_bytes, words_between_blanks, lines, is_newline}

-- a loop that stops at the first byte that passes, or at the end
pub stops_at : (p : ℕ → Bool) (xs : List ℕ) (i : ℕ) → i < length xs → ((k : ℕ) → k < i → p (get_or xs k 0) ≡ false) → p (get_or xs i 0) ≡ true →
    i ≡ position_or_len p xs
stops_at p xs i within none here = sym (position_or_len_is p xs i 0 (omega arith) none (λ _. here))

-- and one that came to the end
pub stops_after : (p : ℕ → Bool) (xs : List ℕ) (i : ℕ) → i ≤ length xs → length xs ≤ i → ((k : ℕ) → k < i → p (get_or xs k 0) ≡ false) →
    i ≡ position_or_len p xs
stops_after p xs i within all none = sym (position_or_len_is p xs i 0 within none (λ h. absurd (omega arith)))

-- a blank at the prefix parts no words
pub skip_blank : (c : ℕ) (cs : List ℕ) → is_blank c ≡ true → words_between_blanks (c ∷ cs) ≡ words_between_blanks cs
skip_blank c cs blank = ap (filter has_bytes) (slice_split-cons_yes is_blank c cs blank)

-- a word that isn't empty is kept
keep : (w : List ℕ) (ws : List (List ℕ)) → 0 < length w → filter has_bytes (w ∷ ws) ≡ w ∷ filter has_bytes ws
keep [] ws some = absurd (omega arith)
keep (c ∷ cs) ws some = refl

-- a blank after a word
blank_next : (xs : List ℕ) → position_or_len is_blank xs < length xs → words_between_blanks (drop (position_or_len is_blank xs) xs) ≡ words_between_blanks (after_first is_blank xs)
blank_next xs lt =
    rw (drop-cons xs (position_or_len is_blank xs) 0)
    (skip_blank (get_or xs (position_or_len is_blank xs) 0) (drop (suc (position_or_len is_blank xs)) xs) (passes_at_first is_blank xs 0 lt)
    ∙ ap (λ n. words_between_blanks (drop n xs)) (sym (add-one (position_or_len is_blank xs))))

-- a word with a blank after it, and one that ends with the text
inside : (xs : List ℕ) → 0 < position_or_len is_blank xs → position_or_len is_blank xs < length xs →
    words_between_blanks xs ≡ take (position_or_len is_blank xs) xs ∷ words_between_blanks (drop (position_or_len is_blank xs) xs)
inside xs some lt =
    ap (filter has_bytes) (slice_split_first is_blank xs 0 lt)
    ∙ keep (take (position_or_len is_blank xs) xs) (slice_split is_blank (after_first is_blank xs))
    (rw (length-take-le (position_or_len is_blank xs) xs (omega arith)) some)
    ∙ ap (λ ws. take (position_or_len is_blank xs) xs ∷ ws) (sym (blank_next xs lt))

has_some : (xs : List ℕ) → 0 < position_or_len is_blank xs → 0 < length xs
has_some [] some = absurd (omega arith)
has_some (x ∷ xs) some = omega arith

last : (xs : List ℕ) → 0 < position_or_len is_blank xs → length xs ≤ position_or_len is_blank xs →
    words_between_blanks xs ≡ take (position_or_len is_blank xs) xs ∷ words_between_blanks (drop (position_or_len is_blank xs) xs)
last xs some le =
    let short : 0 < length xs = has_some xs some in
    ap (filter has_bytes) (slice_split_none is_blank xs (λ k d h. fails_before_first is_blank xs k d (omega arith)))
    ∙ keep xs [] short
    ∙ rw (take_all (position_or_len is_blank xs) xs le, drop_all (position_or_len is_blank xs) xs le) refl

-- so in both cases
words_prefix : (xs : List ℕ) → 0 < position_or_len is_blank xs → words_between_blanks xs ≡ take (position_or_len is_blank xs) xs
    ∷ words_between_blanks (drop (position_or_len is_blank xs) xs)
words_prefix xs some = ⊎_elim (inside xs some) (last xs some) (cases_lt (position_or_len is_blank xs) (length xs))

-- the word at the prefix, and the words of the rest
pub words_prefix_at : (xs : List ℕ) (k : ℕ) → k ≡ position_or_len is_blank xs → 0 < position_or_len is_blank xs → words_between_blanks xs ≡ take k xs ∷ words_between_blanks (drop k xs)
words_prefix_at xs k is some = rw is (words_prefix xs some)

-- ---- lines

-- the first line, where a newline ends it
pub line_between : (text : List ℕ) (k : ℕ) → k ≡ position_or_len is_newline text → k < length text → lines text ≡ take k text ∷ lines (drop (k + 1) text)
line_between text k is some = rw is (slice_split_first is_newline text 0 (omega arith))

-- and where none does
pub line_last : (text : List ℕ) (k : ℕ) → k ≡ position_or_len is_newline text → length text ≤ k → lines text ≡ text ∷ []
line_last text k is none = slice_split_none is_newline text (λ j d h. fails_before_first is_newline text j d (omega arith))
