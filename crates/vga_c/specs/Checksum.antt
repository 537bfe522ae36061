-- Adler-32, the checksum of zlib (RFC 1950).
use Rattle.std.specs.Prelude.{◌≡◌, ◌+◌, ◌*◌, ◌%◌, ◌++◌, ℕ, List, [], ◌∷◌}

-- Adler-32 from these two sums on: the sum of the bytes, plus 1, and the sum of those sums, each
-- modulo the largest prime below 65,536
unfoldable pub adler_from : ℕ → ℕ → List ℕ → ℕ
adler_from sum sums [] = 65536 * sums + sum
adler_from sum sums (b ∷ bytes) =
    adler_from ((sum + b) % 65521) ((sums + (sum + b) % 65521) % 65521) bytes

-- the Adler-32 checksum of some bytes
abbrev pub adler_32 : List ℕ → ℕ
adler_32 bytes = adler_from 1 0 bytes

-- these bytes bring the first two sums to the next two, whatever bytes follow
abbrev pub BringSumsTo : ℕ → ℕ → List ℕ → ℕ → ℕ → Type 0
BringSumsTo sum sums bytes next_sum next_sums = (rest : List ℕ) →
    adler_from sum sums (bytes ++ rest) ≡ adler_from next_sum next_sums rest
