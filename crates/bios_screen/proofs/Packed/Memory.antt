-- With chain 4 the planes are one flat memory, with a byte for each pixel.
use Rattle.std.proofs.Common.{◌≡◌, ℕ, ◌+◌, ◌*◌, ◌/◌, ◌%◌, ◌<◌, refl, sym, ap, ◌∙◌, subst, arith, List, length, true}
use Rattle.std.specs.Prelude.{slice_index, slice_set, ◌==◌, ◌&&◌, if◌then◌else◌}
use Rattle.std.proofs.lemmas.Bool.Decides.{nat_tests}
use Rattle.vga_bits.specs.Bits.{byte_of_bits}
use Rattle.vga_bits.proofs.BitLemmas.{byte_bits}
use Rattle.bios_screen.proofs.Prelude.{Four, bytes_at, HostState, card_meaning, CardState, bytes_320_by_200, run, put, pixel_of_256_colours}
use Rattle.vga_bits.specs.Four.{of_plane}
use Rattle.vga_bits.proofs.FourLemmas.{by_plane}
use Rattle.vga_host.specs.Memory.Address.{is_decoded, window_offset}
use Rattle.vga_host.specs.Memory.Write.{written_bit, combined_bit, written_byte, memory_after_put}
use Rattle.vga_host.specs.Memory.Read.{read_bit, read_byte}
use Rattle.bios_screen.proofs.Base.Flat.{set_cell, list_put}
use Rattle.bios_screen.proofs.Base.Setting.{setting, host_at, with_memory, put_decoded}
use Rattle.bios_screen.proofs.Modes.PixelModes.{setting_of}

pub decoded : (h : HostState) (n : ℕ) → n < 65536 → is_decoded (host_at h (setting_of bytes_320_by_200)) 0x63 (0xA0000 + n) ≡ true
decoded h n l = grind (arith, nat_tests)

window_is : (h : HostState) (n : ℕ) → n < 65536 → window_offset (host_at h (setting_of bytes_320_by_200)) (0xA0000 + n) ≡ n
window_is h n l = omega arith

written : (h : HostState) (b : ℕ) → b < 256 → (p : ℕ) → p < 4 → written_byte (host_at h (setting_of bytes_320_by_200)) b p ≡ b
unfolding byte_of_bits written_bit combined_bit
written h b l = by_plane (λ p. written_byte (host_at h (setting_of bytes_320_by_200)) b p ≡ b) (byte_bits b l) (byte_bits b l) (byte_bits b l) (byte_bits b l)

-- the planes, of which plane n % 4 gets a new byte
abbrev four_packed : Four (List ℕ) → ℕ → ℕ → ℕ → ℕ → ℕ → Four (List ℕ)
four_packed m n x0 x1 x2 x3 = record {
  plane0 = if 0 == n % 4 then slice_set m.plane0 (n / 4 * 4) x0 else m.plane0;
  plane1 = if 1 == n % 4 then slice_set m.plane1 (n / 4 * 4) x1 else m.plane1;
  plane2 = if 2 == n % 4 then slice_set m.plane2 (n / 4 * 4) x2 else m.plane2;
  plane3 = if 3 == n % 4 then slice_set m.plane3 (n / 4 * 4) x3 else m.plane3;
}

abbrev pub packed_memory : Four (List ℕ) → ℕ → ℕ → Four (List ℕ)
packed_memory m n b = four_packed m n b b b b

memory_is : (h : HostState) (n b : ℕ) → b < 256 → memory_after_put (host_at h (setting_of bytes_320_by_200)) n b ≡ packed_memory h.memory n b
memory_is h n b l =
    let w = written_byte (host_at h (setting_of bytes_320_by_200)) b in
    ap (λ x. four_packed h.memory n x (w 1) (w 2) (w 3)) (written h b l 0 (omega arith))
    ∙ ap (λ x. four_packed h.memory n b x (w 2) (w 3)) (written h b l 1 (omega arith))
    ∙ ap (λ x. four_packed h.memory n b b x (w 3)) (written h b l 2 (omega arith))
    ∙ ap (λ x. four_packed h.memory n b b b x) (written h b l 3 (omega arith))

pub put_is : (c : CardState) (n b : ℕ) → setting c ≡ setting_of bytes_320_by_200 → n < 65536 → b < 256 →
    (run card_meaning (put (0xA0000 + n) b) c).0 ≡ with_memory c (packed_memory c.host.memory n b)
put_is c n b e l h =
    put_decoded c (setting_of bytes_320_by_200) (0xA0000 + n) b e (decoded c.host n l)
    ∙ ap (λ o. with_memory c (memory_after_put (host_at c.host (setting_of bytes_320_by_200)) o b)) (window_is c.host n l)
    ∙ ap (with_memory c) (memory_is c.host n b h)

plane_after : (m : Four (List ℕ)) (n b p : ℕ) → p < 4 → of_plane (packed_memory m n b) p
    ≡ (if p == n % 4 then slice_set (of_plane m p) (n / 4 * 4) b else of_plane m p)
plane_after m n b = by_plane (λ p. of_plane (packed_memory m n b) p ≡ (if p == n % 4 then slice_set (of_plane m p) (n / 4 * 4) b else of_plane m p))
    refl refl refl refl

-- a Put at pixel n changes that pixel only
pub pixel_put : (m : Four (List ℕ)) (n b k : ℕ) → ((p : ℕ) → p < 4 → length (of_plane m p) ≡ 65536) → n < 65536 →
    pixel_of_256_colours (packed_memory m n b) k ≡ set_cell (pixel_of_256_colours m) n b k
pixel_put m n b k size l =
    let within : k % 4 < 4 = omega arith in
    let o = n / 4 * 4 in
    let plane = of_plane m (k % 4) in
    let long = size (k % 4) within in
    let same : ((k % 4 == n % 4) && (k / 4 * 4 == o)) ≡ (k == n) = grind (arith, nat_tests) in
    ap (λ x. slice_index x (k / 4 * 4)) (plane_after m n b (k % 4) within)
    ∙ list_put (k % 4 == n % 4) plane o b (k / 4 * 4) (omega arith) ∙ ap (λ t. if t then b else pixel_of_256_colours m k) same

-- byte p of the four bytes at an offset is that of plane p
byte_of_plane : (m : Four (List ℕ)) (o p : ℕ) → p < 4 → of_plane (bytes_at m o) p ≡ slice_index (of_plane m p) o
byte_of_plane m o = by_plane (λ p. of_plane (bytes_at m o) p ≡ slice_index (of_plane m p) o) refl refl refl refl

pub byte_read : (h : HostState) (n : ℕ) → n < 65536 → pixel_of_256_colours h.memory n < 256 →
    read_byte (host_at h (setting_of bytes_320_by_200)) (0xA0000 + n) ≡ pixel_of_256_colours h.memory n
unfolding byte_of_bits read_bit
byte_read h n l b =
    let w = window_offset (host_at h (setting_of bytes_320_by_200)) (0xA0000 + n) in
    let p : w % 4 < 4 = omega arith in
    let e : of_plane (bytes_at h.memory (w / 4 * 4)) (w % 4) ≡ pixel_of_256_colours h.memory n = byte_of_plane h.memory (w / 4 * 4) (w % 4) p
    ∙ ap (pixel_of_256_colours h.memory) (window_is h n l) in
    byte_bits (of_plane (bytes_at h.memory (w / 4 * 4)) (w % 4)) (subst (λ x. x < 256) (sym e) b) ∙ e
