-- Lines of text: words, which may be the digits of a byte or of a word of two bytes.
use Rattle.std.specs.Prelude.{ℕ, List, [], ◌∷◌, ◌++◌, map, codes}
use Rattle.std.specs.List.{range_with_len}
use Rattle.vga_bits.specs.Hex.{two_hex_digits, four_hex_digits}

-- how many bytes the longest text has
abbrev pub longest_dump_len : ℕ
longest_dump_len = 782

-- the digits of the bytes f a, f (a + 1) and so on, n of them
unfoldable pub two_hex_digits_each : (ℕ → ℕ) → ℕ → ℕ → List (List ℕ)
two_hex_digits_each f a n = map (λ i. two_hex_digits (f i)) (range_with_len a n)

-- the digits of the words f a, f (a + 1) and so on, n of them
unfoldable pub four_hex_digits_each : (ℕ → ℕ) → ℕ → ℕ → List (List ℕ)
four_hex_digits_each f a n = map (λ i. four_hex_digits (f i)) (range_with_len a n)

-- words, each after a blank
abbrev pub words_after_blanks : List (List ℕ) → List ℕ
words_after_blanks [] = []
words_after_blanks (word ∷ words) = codes " " ++ (word ++ words_after_blanks words)

-- a line: its name, words, each after a blank, and a newline
abbrev pub dump_line : List ℕ → List (List ℕ) → List ℕ
dump_line name words = name ++ (words_after_blanks words ++ codes "\n")
