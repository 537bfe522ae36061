-- A byte as its bits, of which bit 7 is the highest.
use Rattle.std.specs.Prelude.{ℕ, Bool, ◌==◌, ◌+◌, ◌-◌, ◌*◌, ◌/◌, ◌%◌, ◌^◌}
use Rattle.std.specs.Int.{bit_at}

-- whether bit i of n is 1
abbrev pub is_set : ℕ → ℕ → Bool
is_set n i = bit_at n i == 1

-- bits hi to lo of n, as a number
abbrev pub field : ℕ → ℕ → ℕ → ℕ
field n hi lo = n / 2 ^ lo % 2 ^ (hi + 1 - lo)

-- the byte whose bit i is f i
unfoldable pub byte_of_bits : (ℕ → ℕ) → ℕ
byte_of_bits f = f 0 + 2 * f 1 + 4 * f 2 + 8 * f 3 + 16 * f 4 + 32 * f 5 + 64 * f 6 + 128 * f 7
