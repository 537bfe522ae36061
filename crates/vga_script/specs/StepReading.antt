-- How the words after a step's name are read, from the left. Of this, public clauses cite
-- `number_of_word` alone: of the rest the proofs show that it reads what the words spell.
use Rattle.std.specs.Prelude.{ℕ, ◌≡◌, ◌+◌, ◌*◌, ◌&&◌, nat_lt, nat_le, if◌then◌else◌, List, [], ◌∷◌}
use Rattle.std.specs.Prelude.{length, take, drop, Option, Some, None, Result, Ok, Err, codes}
use Rattle.std.specs.Char.{digit_value, is_digit}
use Rattle.std.specs.Str.{bytes_eq}
use Rattle.hex.specs.Hex.{decode_of}
use Rattle.hex.specs.declared.error.FromHexError.{FromHexError}
use Rattle.vga_script.specs.declared.step.Step.{Step}
use Rattle.vga_script.specs.declared.step.Step.TheVariants.{Out, OutWord, In, InWord, Put, PutWord}
use Rattle.vga_script.specs.declared.step.Step.TheVariants.{Get, GetWord, Int, Advance, Frame, Show}
use Rattle.vga_script.specs.declared.dump_range.Shown.{Shown}
use Rattle.vga_script.specs.declared.dump_range.Shown.TheVariants as shown
use Rattle.vga_script.specs.declared.keyword.Keyword.{Keyword}
use Rattle.vga_script.specs.declared.keyword.Keyword.TheVariants as keyword
use Rattle.vga_script.specs.declared.step_reading.Unread.{Unread}
use Rattle.vga_script.specs.declared.step_reading.Unread.TheVariants as unread
use Rattle.vga_script.specs.Tokens.{in_lower_case}

-- the second reads after the first, if the first has read something
infixl 10 ◌>>=◌
abbrev pub ◌>>=◌ : {A B : Type 0} → Option A → (A → Option B) → Option B
(Some x) >>= f = f x
None >>= f = None

-- what is read if the code reads nothing: nothing; or anything, if an allocation failed
abbrev pub ReadsNothing : {Y : Type 0} → Unread → Option Y → Type 0
ReadsNothing unread.Bad read = read ≡ None
ReadsNothing unread.OutOfMemory read = Unit {0}

-- the code gives what is read, unless an allocation fails
abbrev pub GivesWhatIsRead : {X Y : Type 0} → (X → Y) → Result X Unread → Option Y → Type 0
GivesWhatIsRead view (Ok x) read = read ≡ Some (view x)
GivesWhatIsRead view (Err e) read = ReadsNothing e read

-- the number that these digits spell after n, if it is at most `most`
abbrev pub number_from : ℕ → ℕ → ℕ → List ℕ → Option ℕ
number_from radix most n [] = Some n
number_from radix most n (c ∷ cs) =
    if is_digit c radix && nat_le (n * radix + digit_value c) most
    then number_from radix most (n * radix + digit_value c) cs else None

-- the number that a word spells, if it spells one of at most `most`
unfoldable pub number_of_word : ℕ → ℕ → List ℕ → Option ℕ
number_of_word radix most [] = None
number_of_word radix most (c ∷ cs) = number_from radix most 0 (c ∷ cs)

-- a hexadecimal number of at most `digits` digits, itself at most `most`
unfoldable pub hex_number_of : ℕ → ℕ → List ℕ → Option ℕ
hex_number_of digits most word =
    if nat_le (length word) digits then number_of_word 16 most word else None

-- the hexadecimal number that the first word spells, of at most `digits` digits and at most `most`,
-- and the words after it
unfoldable pub next_hex_number : ℕ → ℕ → List (List ℕ) → Option (ℕ × List (List ℕ))
next_hex_number digits most [] = None
next_hex_number digits most (w ∷ ws) = hex_number_of digits most w >>= λ n. Some (n, ws)

-- no word is left
unfoldable pub no_word_left : List (List ℕ) → Option (Unit {0})
no_word_left [] = Some tt
no_word_left (w ∷ ws) = None

-- one hexadecimal number, and no other word
unfoldable pub only_hex_number : ℕ → ℕ → List (List ℕ) → Option ℕ
only_hex_number digits most ws = do
  n ← next_hex_number digits most ws
  e ← no_word_left n.1
  Some n.0

-- two hexadecimal numbers, and no other word
unfoldable pub only_two_hex_numbers : ℕ → ℕ → ℕ → ℕ → List (List ℕ) → Option (ℕ × ℕ)
only_two_hex_numbers digits most other_digits other_most ws = do
  n ← next_hex_number digits most ws
  m ← next_hex_number other_digits other_most n.1
  e ← no_word_left m.1
  Some (n.0, m.0)

-- a decimal number, and the words after it
abbrev pub next_decimal_number : ℕ → List (List ℕ) → Option (ℕ × List (List ℕ))
next_decimal_number most [] = None
next_decimal_number most (w ∷ ws) = number_of_word 10 most w >>= λ n. Some (n, ws)

-- one decimal number, and no other word
unfoldable pub only_decimal_number : ℕ → List (List ℕ) → Option ℕ
only_decimal_number most ws = do
  n ← next_decimal_number most ws
  e ← no_word_left n.1
  Some n.0

-- the register of this name, if the first word is that register, and 0 otherwise; and the words
-- after it
unfoldable pub next_register : List ℕ → List (List ℕ) → Option (ℕ × List (List ℕ))
next_register name [] = Some (0, [])
next_register name (w ∷ ws) =
    if bytes_eq (in_lower_case (take 3 w)) name then (hex_number_of 4 0xFFFF (drop 3 w) >>= λ n.
    Some (n, ws))
    else Some (0, w ∷ ws)

-- the bytes that the digits of a block spell
abbrev pub decoded : Result (List ℕ) FromHexError → Option (List ℕ)
decoded (Ok bytes) = Some bytes
decoded (Err e) = None

-- the bytes of a word that has the digits of 1 to 65,535 bytes
unfoldable pub block_bytes_of_word : List ℕ → Option (List ℕ)
block_bytes_of_word word = if nat_lt 0 (length word) && nat_le (length word) 131070
    then decoded (decode_of word) else None

-- the bytes of the word after `block`, and no other word
unfoldable pub only_block_digits : List (List ℕ) → Option (List ℕ)
only_block_digits [] = None
only_block_digits (w ∷ ws) = do
  block ← block_bytes_of_word w
  e ← no_word_left ws
  Some block

-- a block or none, and no other word
unfoldable pub block_at : List (List ℕ) → Option (List ℕ)
block_at [] = Some []
block_at (w ∷ ws) =
    if bytes_eq (in_lower_case w) (codes "block") then only_block_digits ws else None

-- a call of the BIOS
unfoldable pub read_bios_call : List (List ℕ) → Option Step
read_bios_call ws = do
  a ← next_register (codes "ax=") ws
  b ← next_register (codes "bx=") a.1
  c ← next_register (codes "cx=") b.1
  d ← next_register (codes "dx=") c.1
  block ← block_at d.1
  Some (Int a.0 b.0 c.0 d.0 block)

-- what is shown, if no word is left
unfoldable pub shown_if_no_word_left : Shown → List (List ℕ) → Option Shown
shown_if_no_word_left what ws = no_word_left ws >>= λ e. Some what

-- the entry of the DAC that is shown
unfoldable pub read_dac : List (List ℕ) → Option Shown
read_dac ws = only_hex_number 2 0xFF ws >>= λ n. Some (shown.Dac n)

-- the bytes of a plane that are shown: 1 to 256, none past its end
unfoldable pub read_plane : List (List ℕ) → Option Shown
read_plane ws = do
  p ← next_hex_number 1 3 ws
  o ← next_hex_number 4 0xFFFF p.1
  n ← only_decimal_number 256 o.1
  if nat_lt 0 n && nat_le (o.0 + n) 0x1_0000 then Some (shown.Plane p.0 o.0 n) else None

-- what is shown, by its name
unfoldable pub read_shown : List (List ℕ) → Option Shown
read_shown [] = None
read_shown (w ∷ ws) =
    if bytes_eq (in_lower_case w) (codes "regs") then shown_if_no_word_left shown.Registers ws
    else if bytes_eq (in_lower_case w) (codes "dac") then read_dac ws
    else if bytes_eq (in_lower_case w) (codes "beam") then shown_if_no_word_left shown.Beam ws
    else if bytes_eq (in_lower_case w) (codes "latches") then shown_if_no_word_left shown.Latches ws
    else if bytes_eq (in_lower_case w) (codes "plane") then read_plane ws
    else if bytes_eq (in_lower_case w) (codes "bda") then shown_if_no_word_left shown.BiosData ws
    else if bytes_eq (in_lower_case w) (codes "cells") then shown_if_no_word_left shown.Cells ws
    else None

-- the step that a keyword and the words after it spell
unfoldable pub step_of_keyword : Keyword → List (List ℕ) → Option Step
step_of_keyword keyword.Out ws = only_two_hex_numbers 4 0xFFFF 2 0xFF ws >>= λ n. Some (Out n.0 n.1)
step_of_keyword keyword.OutWord ws =
    only_two_hex_numbers 4 0xFFFF 4 0xFFFF ws >>= λ n. Some (OutWord n.0 n.1)
step_of_keyword keyword.In ws = only_hex_number 4 0xFFFF ws >>= λ n. Some (In n)
step_of_keyword keyword.InWord ws = only_hex_number 4 0xFFFF ws >>= λ n. Some (InWord n)
step_of_keyword keyword.Put ws =
    only_two_hex_numbers 8 0xFFFF_FFFF 2 0xFF ws >>= λ n. Some (Put n.0 n.1)
step_of_keyword keyword.PutWord ws =
    only_two_hex_numbers 8 0xFFFF_FFFF 4 0xFFFF ws >>= λ n. Some (PutWord n.0 n.1)
step_of_keyword keyword.Get ws = only_hex_number 8 0xFFFF_FFFF ws >>= λ n. Some (Get n)
step_of_keyword keyword.GetWord ws = only_hex_number 8 0xFFFF_FFFF ws >>= λ n. Some (GetWord n)
step_of_keyword keyword.Int ws = read_bios_call ws
step_of_keyword keyword.Advance ws = only_decimal_number 0xFFFF_FFFF ws >>= λ n. Some (Advance n)
step_of_keyword keyword.Frame ws = no_word_left ws >>= λ e. Some Frame
step_of_keyword keyword.Show ws = read_shown ws >>= λ what. Some (Show what)
