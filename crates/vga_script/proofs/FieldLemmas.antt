-- Numbers and blocks in bytes.
use Rattle.std.proofs.Common.{◌≡◌, ℕ, ◌^◌, ◌<◌, List, [], ◌∷◌, ◌++◌, length, get_or, suc, arith}
use Rattle.std.proofs.lemmas.Nat.{le_bytes_2, le_bytes_4}
use Rattle.std.specs.List.{AllByRecursion}
use Rattle.byteorder.specs.Endian.{little_bytes, little_number}
use Rattle.byteorder.specs.Numbers.{little_number-reads_back}
use Rattle.vga_script.specs.Step.{IsBlock}

-- writing the number read from two bytes gives these bytes back
pub written_two : (bytes : List ℕ) (n : ℕ) → length bytes ≡ 2 → ((i : ℕ) → get_or bytes i 0 < 256) → n ≡ little_number 2 bytes → little_bytes 2 n ≡ bytes
written_two bytes n len fits e = le_bytes_2 bytes n len fits (omega arith)

-- and that from four bytes
pub written_four : (bytes : List ℕ) (n : ℕ) → length bytes ≡ 4 → ((i : ℕ) → get_or bytes i 0 < 256) → n ≡ little_number 4 bytes → little_bytes 4 n ≡ bytes
written_four bytes n len fits e = le_bytes_4 bytes n len fits (omega arith)

-- reading the two bytes of a number gives it back
pub two_back : (n : ℕ) (rest : List ℕ) → n < 2 ^ 16 → little_number 2 (little_bytes 2 n ++ rest) ≡ n
two_back n rest small = little_number-reads_back 2 n rest (omega arith)

-- and so does reading the four
pub four_back : (n : ℕ) (rest : List ℕ) → n < 2 ^ 32 → little_number 4 (little_bytes 4 n ++ rest) ≡ n
four_back n rest small = little_number-reads_back 4 n rest (omega arith)

-- bytes, each of which fits
pub all_bytes : (bytes : List ℕ) → ((i : ℕ) → get_or bytes i 0 < 256) → AllByRecursion (λ byte. byte < 2 ^ 8) bytes
all_bytes [] fits = tt
all_bytes (b ∷ bs) fits = (fits 0, all_bytes bs (λ i. fits (suc i)))

-- bytes that two bytes count are a block
pub is_block : (block : List ℕ) (len : ℕ) → length block ≡ len → len < 2 ^ 16 → ((i : ℕ) → get_or block i 0 < 256) → IsBlock block
is_block block len e short fits = (omega arith, all_bytes block fits)
