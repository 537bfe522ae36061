-- Four bytes, one for each plane, as one word of 32 bits: bits 8p + 7 to 8p are the byte of plane
-- p.
use Rattle.std.specs.Prelude.{ℕ, ◌+◌, ◌*◌, ◌/◌, ◌%◌, ◌^◌, ◌<◌, ◌≡◌}
use Rattle.std.proofs.Common.{arith}
use Rattle.std.specs.Int.{bit_at}
use Rattle.vga_bits.specs.Four.{Four, four_by_plane}

-- the byte of plane p
abbrev pub plane_byte_in_word : ℕ → ℕ → ℕ
plane_byte_in_word p word = word / 2 ^ (8 * p) % 256

-- the four bytes of a word
abbrev pub plane_bytes_of_word : ℕ → Four ℕ
plane_bytes_of_word word = four_by_plane (λ p. plane_byte_in_word p word)

-- the word of four bytes
abbrev pub word_of_plane_bytes : Four ℕ → ℕ
word_of_plane_bytes bytes =
    bytes.plane0 + 256 * bytes.plane1 + 65536 * bytes.plane2 + 16777216 * bytes.plane3

-- the bytes of a word determine the word
pub word_of_its_plane_bytes : (w : ℕ) → w < 4294967296 → word_of_plane_bytes (plane_bytes_of_word w)
    ≡ w
word_of_its_plane_bytes w fits = omega arith

-- bit i of plane p
unfoldable pub plane_bit_in_word : ℕ → ℕ → ℕ → ℕ
plane_bit_in_word word p i = bit_at word (8 * p + i)
