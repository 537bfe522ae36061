-- Counts of what passed and what failed.
use Rattle.std.specs.Prelude.{ℕ, ◌+◌, ◌-◌, ◌^◌, min}

-- one more, up to the largest number of 64 bits
abbrev pub saturating_increment : ℕ → ℕ
saturating_increment n = min (n + 1) (2 ^ 64 - 1)
