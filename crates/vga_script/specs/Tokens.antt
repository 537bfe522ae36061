-- Lines, words and numbers of a text.
use Rattle.std.specs.Prelude.{ℕ, ◌≡◌, ◌<◌, ◌≤◌, ◌+◌, ◌-◌, ◌==◌, ◌||◌, Bool, true, false, List, [], ◌∷◌}
use Rattle.std.specs.Prelude.{length, drop, filter, map, Option, Some, None}
use Rattle.std.specs.Char.{to_ascii_lowercase}
use Rattle.std.specs.List.{slice_split, before_first}
use Rattle.std.specs.Str.Parse.{AllDigits, digits_value}
use Rattle.vga_script.specs.declared.tokens.PieceEnd.{PieceEnd}
use Rattle.vga_script.specs.declared.tokens.PieceEnd.TheVariants as end

-- a newline, which ends a line
abbrev pub is_newline : ℕ → Bool
is_newline byte = byte == 0x0A

-- a space, a tab or a carriage return, which stand between words
abbrev pub is_blank : ℕ → Bool
is_blank byte = (byte == 0x20) || (byte == 0x09) || (byte == 0x0D)

-- a semicolon, which begins a comment
abbrev pub is_semicolon : ℕ → Bool
is_semicolon byte = byte == 0x3B

-- there is at least one byte
abbrev pub has_bytes : List ℕ → Bool
has_bytes [] = false
has_bytes (byte ∷ bytes) = true

-- the lines of a text: what stands between newlines
abbrev pub lines : List ℕ → List (List ℕ)
lines text = slice_split is_newline text

-- the words of some bytes: what stands between blanks, if it has at least one byte
abbrev pub words_between_blanks : List ℕ → List (List ℕ)
words_between_blanks bytes = filter has_bytes (slice_split is_blank bytes)

-- the words of a line: those before its comment
abbrev pub words : List ℕ → List (List ℕ)
words line = words_between_blanks (before_first is_semicolon line)

-- a word in lower case
abbrev pub in_lower_case : List ℕ → List ℕ
in_lower_case word = map to_ascii_lowercase word

-- at least one digit of this radix, in either case, and the number that these digits spell
abbrev pub IsNumeral : ℕ → List ℕ → ℕ → Type 0
IsNumeral radix word n = (0 < length word) × AllDigits radix word × (n ≡ digits_value radix word)

-- a hexadecimal number of at most `most` digits
abbrev pub IsHex : ℕ → List ℕ → ℕ → Type 0
IsHex most word n = (length word ≤ most) × IsNumeral 16 word n

-- the lines of the rest of a text, or none if there is no rest
abbrev pub lines_of_rest : Option (List ℕ) → List (List ℕ)
lines_of_rest None = []
lines_of_rest (Some text) = lines text

-- the length of the rest of a text, plus 1 for its end; or 0 if there is no rest
abbrev pub rest_len_with_one_for_its_end : Option (List ℕ) → ℕ
rest_len_with_one_for_its_end None = 0
rest_len_with_one_for_its_end (Some text) = length text + 1

-- which bytes end a piece of a text
abbrev pub is_end_of_piece : PieceEnd → ℕ → Bool
is_end_of_piece end.Newline = is_newline
is_end_of_piece end.Semicolon = is_semicolon
is_end_of_piece end.Blank = is_blank

-- these bytes are the end of a line
abbrev pub IsEndOf : List ℕ → List ℕ → Type 0
IsEndOf line bytes = (length bytes ≤ length line) × (bytes ≡ drop (length line - length bytes) line)
