-- Bytes put one after the other.
use Rattle.std.proofs.Common.{◌≡◌, ℕ, zero, suc, ◌+◌, ◌*◌, ◌/◌, ◌%◌, ◌<◌, ◌==◌, Bool, true, false, refl, sym, ap, ◌∙◌, arith, List, [], ◌∷◌, ◌++◌}
use Rattle.std.proofs.Common.{length, take, drop, append_assoc, length-append}
use Rattle.std.specs.Prelude.{slice_index, slice_set}
use Rattle.std.specs.List.{flat_map}
use Rattle.std.proofs.lemmas.List.{append-nil, drop-drop, get_or-drop, take_all, take_more, take_more_set, flat_map_more}
use Rattle.vga_bits.specs.Saved.{word_bytes, word_at, first_words, flag_byte, IsPut}

-- what stays from a place on stays from a later one on
stays_later : (xs ys : List ℕ) (at n end : ℕ) → end ≡ at + n → drop at xs ≡ drop at ys → drop end xs ≡ drop end ys
stays_later xs ys at n end later same =
    ap (λ (k : ℕ). drop k xs) later ∙ sym (drop-drop n at xs) ∙ ap (drop n) same ∙ drop-drop n at ys ∙ ap (λ (k : ℕ). drop k ys) (sym later)

-- what was put after something else
pub put_behind : {old mid new : List ℕ} {at next end : ℕ} {xs ys : List ℕ} → IsPut old mid at next xs → IsPut mid new next end ys
    → IsPut old new at end (xs ++ ys)
put_behind {old} {mid} {new} {at} {next} {end} {xs} {ys} a b = record {
  end = omega (arith, a.end, b.end, length-append xs ys);
  prefix = b.prefix ∙ ap (λ (l : List ℕ). l ++ ys) a.prefix ∙ append_assoc (take at old) xs ys;
  back = b.back ∙ stays_later mid old next (length ys) end b.end a.back;
}

-- a slice that was put from its first byte to its last
pub put_whole : {old new : List ℕ} {end : ℕ} {bytes : List ℕ} → IsPut old new 0 end bytes → length new ≡ end → new ≡ bytes
put_whole {old} {new} {end} {bytes} is e = sym (take_all end new (omega (arith, e))) ∙ is.prefix

-- a flag is read back
pub flag_back : (b : Bool) → (flag_byte b == 1) ≡ b
flag_back true = refl
flag_back false = refl

pub flag_small : (b : Bool) → flag_byte b < 2
flag_small true = omega arith
flag_small false = omega arith

-- a word is read back
pub word_is_back : (v : ℕ) → v % 256 + 256 * (v / 256) ≡ v
word_is_back v = omega arith

-- ---- words one after the other

pub length-word_bytes : (ws : List ℕ) → length (flat_map word_bytes ws) ≡ 2 * length ws
length-word_bytes [] = refl
length-word_bytes (w ∷ ws) = omega (arith, length-word_bytes ws)

pub length-words_in : (n : ℕ) (bytes : List ℕ) → length (first_words n bytes) ≡ n
unfolding first_words
length-words_in zero bytes = refl
length-words_in (suc n) bytes = ap suc (length-words_in n (drop 2 bytes))

-- words are read back, whatever follows them
pub words_are_back : (ws rest : List ℕ) → first_words (length ws) (flat_map word_bytes ws ++ rest) ≡ ws
unfolding first_words
words_are_back [] rest = refl
words_are_back (w ∷ ws) rest = ap (λ (x : ℕ). x ∷ first_words (length ws) (flat_map word_bytes ws ++ rest)) (word_is_back w)
    ∙ ap (λ (l : List ℕ). w ∷ l) (words_are_back ws rest)

word_shifted : (bytes : List ℕ) (n : ℕ) → word_at (drop 2 bytes) (2 * n) ≡ word_at bytes (2 * suc n)
word_shifted bytes n =
    let low : 2 + 2 * n ≡ 2 * suc n = omega arith in
    let high : 2 + (2 * n + 1) ≡ 2 * suc n + 1 = omega arith in
    ap (λ (x : ℕ). x + 256 * slice_index (drop 2 bytes) (2 * n + 1)) (get_or-drop 2 bytes (2 * n) 0 ∙ ap (slice_index bytes) low)
    ∙ ap (λ (x : ℕ). slice_index bytes (2 * suc n) + 256 * x) (get_or-drop 2 bytes (2 * n + 1) 0 ∙ ap (slice_index bytes) high)

-- the word at a place among those that are read
pub word_in_at : (n : ℕ) (bytes : List ℕ) (k : ℕ) → k < n → slice_index (first_words n bytes) k ≡ word_at bytes (2 * k)
unfolding first_words
word_in_at zero bytes k within = absurd (omega arith)
word_in_at (suc n) bytes zero within = refl
word_in_at (suc n) bytes (suc k) within = word_in_at n (drop 2 bytes) k (omega arith) ∙ word_shifted bytes k

-- one word more
pub words_more : (n : ℕ) (bytes : List ℕ) → first_words (n + 1) bytes ≡ first_words n bytes ++ word_at bytes (2 * n) ∷ []
unfolding first_words
words_more zero bytes = refl
words_more (suc n) bytes =
    let e : suc n + 1 ≡ suc (n + 1) = omega arith in
    ap (λ (k : ℕ). first_words k bytes) e ∙ ap (λ (l : List ℕ). word_at bytes 0 ∷ l) (words_more n (drop 2 bytes))
    ∙ ap (λ (x : ℕ). word_at bytes 0 ∷ (first_words n (drop 2 bytes) ++ x ∷ [])) (word_shifted bytes n)

-- one word more is read
pub words_taken : (ws bytes : List ℕ) (n w : ℕ) → n < length ws → take n ws ≡ first_words n bytes → w ≡ word_at bytes (2 * n)
    → take (n + 1) (slice_set ws n w) ≡ first_words (n + 1) bytes
words_taken ws bytes n w within before value =
    take_more_set ws n w within ∙ ap (λ (l : List ℕ). l ++ w ∷ []) before ∙ ap (λ (x : ℕ). first_words n bytes ++ x ∷ []) value ∙ sym (words_more n bytes)

-- nothing was put
pub put_none : (old : List ℕ) (at : ℕ) → IsPut old old at at []
put_none old at = record { end = omega arith; prefix = sym (append-nil (take at old)); back = refl }

-- one word more of a list was put
pub put_word_more : {old mid new : List ℕ} {at next end : ℕ} (ws : List ℕ) (k w : ℕ) → k < length ws → w ≡ slice_index ws k
    → IsPut old mid at next (flat_map word_bytes (take k ws)) → IsPut mid new next end (word_bytes w)
    → IsPut old new at end (flat_map word_bytes (take (k + 1) ws))
put_word_more {old} {mid} {new} {at} {next} {end} ws k w within value before last =
    let joined = put_behind before last in
    let e : flat_map word_bytes (take k ws) ++ word_bytes w ≡ flat_map word_bytes (take (k + 1) ws) =
    flat_map_more word_bytes [] (take k ws) w ∙ ap (λ (x : ℕ). flat_map word_bytes (take k ws ++ x ∷ [])) value
    ∙ ap (flat_map word_bytes) (sym (take_more ws k 0 within)) in
    record {
      end = joined.end ∙ ap (λ (l : List ℕ). at + length l) e;
      prefix = joined.prefix ∙ ap (λ (l : List ℕ). take at old ++ l) e;
      back = joined.back;
    }
