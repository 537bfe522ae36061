-- Words that follow one another in a line.
use Rattle.std.proofs.Common.{◌≡◌, ℕ, ◌+◌, List, [], ◌∷◌, ◌++◌, map, codes, refl, sym, ap, ◌∙◌, append_assoc, append-nil}
use Rattle.std.proofs.lemmas.List.FromFn.{map-range_with_len_more}
use Rattle.std.specs.List.{range_with_len}
use Rattle.vga_bits.specs.Hex.{two_hex_digits, four_hex_digits}
use Rattle.vga_show.specs.Lines.{two_hex_digits_each, four_hex_digits_each, words_after_blanks}

-- words after words
pub behind_blanks_append : (words more : List (List ℕ)) → words_after_blanks (words ++ more) ≡ words_after_blanks words ++ words_after_blanks more
behind_blanks_append [] more = refl
behind_blanks_append (word ∷ words) more =
    ap (λ (l : List ℕ). 32 ∷ (word ++ l)) (behind_blanks_append words more) ∙ ap (λ (l : List ℕ). 32 ∷ l)
    (sym (append_assoc word (words_after_blanks words) (words_after_blanks more)))

-- one text after another
pub ruleset joins = (append_assoc, append-nil, behind_blanks_append)

-- one word after the others
behind_blanks_push : (words : List (List ℕ)) (word : List ℕ) → words_after_blanks (words ++ word ∷ []) ≡ words_after_blanks words ++ (codes " " ++ word)
behind_blanks_push words word = behind_blanks_append words (word ∷ []) ∙ ap (λ (l : List ℕ). words_after_blanks words ++ 32 ∷ l) (append-nil word)

-- no byte yet
pub bytes_none : (f : ℕ → ℕ) (a : ℕ) → words_after_blanks (two_hex_digits_each f a 0) ≡ []
unfolding two_hex_digits_each
bytes_none f a = refl

-- one more byte
pub bytes_more : (f : ℕ → ℕ) (a n : ℕ) → words_after_blanks (two_hex_digits_each f a (n + 1)) ≡ words_after_blanks (two_hex_digits_each f a n) ++ (codes " " ++ two_hex_digits (f (a + n)))
unfolding two_hex_digits_each
bytes_more f a n =
    ap words_after_blanks (map-range_with_len_more (λ i. two_hex_digits (f i)) a n (a + n) refl)
    ∙ behind_blanks_push (map (λ i. two_hex_digits (f i)) (range_with_len a n)) (two_hex_digits (f (a + n)))

-- no word yet
pub words_none : (f : ℕ → ℕ) (a : ℕ) → words_after_blanks (four_hex_digits_each f a 0) ≡ []
unfolding four_hex_digits_each
words_none f a = refl

-- one more word
pub words_more : (f : ℕ → ℕ) (a n : ℕ) → words_after_blanks (four_hex_digits_each f a (n + 1)) ≡ words_after_blanks (four_hex_digits_each f a n) ++ (codes " " ++ four_hex_digits (f (a + n)))
unfolding four_hex_digits_each
words_more f a n =
    ap words_after_blanks (map-range_with_len_more (λ i. four_hex_digits (f i)) a n (a + n) refl)
    ∙ behind_blanks_push (map (λ i. four_hex_digits (f i)) (range_with_len a n)) (four_hex_digits (f (a + n)))

-- the bytes and the words of a line, one after another
pub ruleset listing = (joins, bytes_none, bytes_more, words_none, words_more)
