-- Numbers in hexadecimal.
use Rattle.std.specs.Prelude.{ℕ, zero, suc, ◌+◌, ◌/◌, ◌%◌, nat_lt, if◌then◌else◌, List, [], ◌∷◌}
use Rattle.std.specs.Prelude.{◌++◌}

-- a digit below 16, in upper case: 0 to 9, and A to F
abbrev pub hex_digit : ℕ → ℕ
hex_digit n = if nat_lt n 10 then 48 + n else 55 + n

-- the lowest hexadecimal digits of a number, as many as the first argument says
unfoldable pub hex : ℕ → ℕ → List ℕ
hex zero n = []
hex (suc digits) n = hex digits (n / 16) ++ hex_digit (n % 16) ∷ []

-- the two digits of a byte
abbrev pub two_hex_digits : ℕ → List ℕ
two_hex_digits n = hex 2 n

-- the four digits of a word
abbrev pub four_hex_digits : ℕ → List ℕ
four_hex_digits n = hex 4 n
