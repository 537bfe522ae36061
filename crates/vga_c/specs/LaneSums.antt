-- Four numbers of 16 bits in a word, each in a lane of its own. These definitions serve speed alone.
use Rattle.std.specs.Prelude.{◌+◌, ◌*◌, ◌/◌, ◌%◌, ◌^◌, ◌-◌, ◌<◌, ◌≤◌, ℕ}
use Rattle.vga_c.specs.declared.lane_sums.LaneSums.{LaneSums}

-- the number in lane k of a word
abbrev pub lane : ℕ → ℕ → ℕ
lane k word = word / 2 ^ (16 * k) % 65536

-- Each lane's sums are those of n bytes at most. No sum of sums is below its sum.
pub record AreLanesOfBytes (n : ℕ) (sums : LaneSums) : Type 0 where
  pub even : (k : ℕ) → k < 4 → lane k sums.even ≤ 255 * n
  pub odd : (k : ℕ) → k < 4 → lane k sums.odd ≤ 255 * n
  pub even_sums : (k : ℕ) → k < 4 → lane k sums.even_sums ≤ 4080 * n
  pub odd_sums : (k : ℕ) → k < 4 → lane k sums.odd_sums ≤ 4080 * n
  pub even_order : (k : ℕ) → k < 4 → lane k sums.even ≤ lane k sums.even_sums
  pub odd_order : (k : ℕ) → k < 4 → lane k sums.odd ≤ lane k sums.odd_sums

-- the numbers in all lanes of a word, added up
abbrev pub sum_of_word : ℕ → ℕ
sum_of_word word = lane 0 word + lane 1 word + lane 2 word + lane 3 word

-- the sum of all bytes
abbrev pub sum_of_lanes : LaneSums → ℕ
sum_of_lanes sums = sum_of_word sums.even + sum_of_word sums.odd

-- the sum of what that sum is after each byte: eight times what it is after each word, without what
-- comes later in the word
abbrev pub sum_of_sums_of_lanes : LaneSums → ℕ
sum_of_sums_of_lanes sums = 8 * (sum_of_word sums.even_sums + sum_of_word sums.odd_sums)
    - (lane 0 sums.odd + 2 * lane 1 sums.even + 3 * lane 1 sums.odd + 4 * lane 2 sums.even
    + 5 * lane 2 sums.odd + 6 * lane 3 sums.even + 7 * lane 3 sums.odd)
