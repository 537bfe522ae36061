-- Lists of bytes 0.
use Rattle.std.proofs.Common.{◌≡◌, ℕ, zero, suc, length, refl}
use Rattle.std.specs.Prelude.{slice_index}
use Rattle.std.proofs.lemmas.List.{length-replicate}
use Rattle.vga_bits.specs.Bytes.{zeros}

-- there are n of them
pub length-zeros : (n : ℕ) → length (zeros n) ≡ n
unfolding zeros
length-zeros n = length-replicate n 0

-- each is 0, and so is what is read past the last
pub zeros_at : (n i : ℕ) → slice_index (zeros n) i ≡ 0
unfolding zeros
zeros_at zero i = refl
zeros_at (suc n) zero = refl
zeros_at (suc n) (suc i) = zeros_at n i
