-- Bytes that are all 0.
use Rattle.std.proofs.Common.{◌≡◌, ◌∙◌, ◌<◌, ℕ, List, length, replicate, sym, subst}
use Rattle.std.proofs.lemmas.List.{ext_get_or, get_or-replicate, length-replicate}
use Rattle.std.specs.Prelude.{slice_index}
use Rattle.vga_bits.specs.Bytes.{zeros}

-- bytes of which each is 0 are as many zeros
pub all_zeros : (bytes : List ℕ) (n : ℕ) → length bytes ≡ n → ((k : ℕ) → k < n → slice_index bytes k ≡ 0) → bytes ≡ zeros n
unfolding zeros
all_zeros bytes n len each =
    ext_get_or 0 bytes (replicate n 0) (len ∙ sym (length-replicate n 0))
    (λ i within. let inside = subst (λ m. i < m) len within in each i inside ∙ sym (get_or-replicate n i 0 0 inside))
