-- Plain writes, and those of the latches: their registers, and what they leave.
use Rattle.std.proofs.Common.{true, false, ◌≡◌, ℕ, ◌+◌, ◌%◌, ◌<◌, ◌==◌, refl, sym, ap, ◌∙◌, arith, if◌then◌else◌}
use Rattle.std.specs.Prelude.{min}
use Rattle.std.specs.Int.{bit_at}
use Rattle.std.proofs.lemmas.Bool.Decides.{nat_tests}
use Rattle.vga_bits.proofs.BitLemmas.{ones_byte}
use Rattle.vga_bits.proofs.FourLemmas.{by_plane}
use Rattle.vga_bits.specs.Bits.{is_set}
use Rattle.vga_bits.specs.Four.{of_plane}
use Rattle.vga_host.specs.Host.{HostState}
use Rattle.vga_host.specs.Memory.Write.{written_bit, mask_bit, combined_bit, combined_by_function, StoresByteUnchanged}
use Rattle.vga_host.specs.Graphics.{write_mode, rotate_count, function_select, is_set_reset_enabled, set_reset, bit_mask}

-- the registers of a plain write, by their numbers
pub plain_by : (h : HostState) (own mask : ℕ) → write_mode h ≡ 0 → rotate_count h ≡ 0 → function_select h ≡ 0
    → own ≡ 0 → ((p : ℕ) → is_set own p ≡ is_set_reset_enabled h p) → (mask == 255) ≡ true → ((i : ℕ) → bit_at mask i ≡ bit_mask h i) → StoresByteUnchanged h
plain_by h own mask mode rotate function none owns all masks =
    let whole : mask ≡ 255 = grind (arith, nat_tests) in
    record {
      mode = mode;
      rotate = rotate;
      function = function;
      own = λ p l. sym (owns p) ∙ ap (λ n. is_set n p) none ∙ by_plane (λ p. is_set 0 p ≡ false) refl refl refl refl p l;
      mask = λ i l. sym (masks i) ∙ ap (λ b. bit_at b i) whole ∙ ones_byte i l;
    }

-- such a write leaves the bits of its byte in each plane
pub plain_bit : (h : HostState) (v p i : ℕ) → StoresByteUnchanged h → p < 4 → i < 8 → written_bit h v p i ≡ bit_at v i
unfolding written_bit combined_bit
plain_bit h v p i is lp li =
    let latch = bit_at (of_plane h.latches p) i in
    let z : (i + 0) % 8 ≡ i = omega arith in
    (λ j. if is.mode j == 1 then latch
    else if (if is.mode j == 3 then min (is.mask i li j) (bit_at v ((i + is.rotate j) % 8)) else is.mask i li j) == 0 then latch
    else combined_by_function (is.function j) (if is.mode j == 0 then (if is.own p lp j then set_reset h p else bit_at v ((i + is.rotate j) % 8))
    else if is.mode j == 2 then bit_at v p else set_reset h p) latch)
    ∙ ap (bit_at v) z

-- in write mode 1 a write leaves the bits of the latches
pub latched_bit : (h : HostState) (v p i : ℕ) → write_mode h ≡ 1 → written_bit h v p i ≡ bit_at (of_plane h.latches p) i
unfolding written_bit
latched_bit h v p i is =
    let latch = bit_at (of_plane h.latches p) i in
    λ j. if is j == 1 then latch else if mask_bit h v i == 0 then latch else combined_bit h v p i
