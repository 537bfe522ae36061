-- Text memory as one flat memory of bytes; all else is kept.
use Rattle.std.proofs.Common.{◌≡◌, ◌≢◌, ℕ, zero, suc, Bool, List, [], ◌+◌, ◌*◌, ◌/◌, ◌%◌, ◌<◌, ⊎_elim, refl, sym, ap, ◌∙◌, subst, arith, length, true, false}
use Rattle.std.specs.Prelude.{slice_index, slice_set, ◌==◌, ◌&&◌, if◌then◌else◌}
use Rattle.std.proofs.lemmas.Bool.{cases_eq}
use Rattle.std.proofs.lemmas.Bool.Decides.{nat_tests}
use Rattle.std.proofs.lemmas.List.{length-set}
use Rattle.std.specs.Int.{bit_at}
use Rattle.vga_bits.specs.Bits.{byte_of_bits}
use Rattle.vga_bits.proofs.BitLemmas.{byte_bits}
use Rattle.bios_screen.proofs.Prelude.{Four, HostState, card_meaning, CardState, run, put}
use Rattle.vga_host.specs.Memory.Address.{is_decoded, window_offset}
use Rattle.vga_host.specs.Memory.Write.{written_bit, combined_bit, written_byte, memory_after_put}
use Rattle.bios_screen.proofs.Base.Flat.{set_cell, set_same, set_other, list_put}
use Rattle.bios_screen.proofs.Base.Setting.{setting, host_at, with_memory, put_decoded}
use Rattle.bios_screen.proofs.Modes.TextModes.{Display, misc_of, base_of, text_setting}
use Rattle.bios_screen.proofs.Modes.TextModes.Display.{Colour, Monochrome}

-- a byte built from its bits
abbrev pub bits_of : ℕ → ℕ
bits_of b = byte_of_bits (bit_at b)

-- all of an adapter except the planes of characters and attributes, and the latches
abbrev pub without_text : CardState → CardState
without_text c = record c {
  host = record c.host {
    memory = record c.host.memory { plane0 = []; plane1 = [] };
    latches = record { plane0 = 0; plane1 = 0; plane2 = 0; plane3 = 0 };
  };
}

-- an adapter in text, whose byte at offset w of the window is m w; all else is as in `rest`
pub record IsTextual (disp : Display) (rest : CardState) (c : CardState) (m : ℕ → ℕ) : Type 0 where
  pub mode : setting c ≡ text_setting disp
  pub size0 : length c.host.memory.plane0 ≡ 65536
  pub size1 : length c.host.memory.plane1 ≡ 65536
  pub character : (q : ℕ) → q < 16384 → slice_index c.host.memory.plane0 (2 * q) ≡ m (2 * q)
  pub attribute : (q : ℕ) → q < 16384 → slice_index c.host.memory.plane1 (2 * q) ≡ m (2 * q + 1)
  pub small : (w : ℕ) → w < 32768 → m w < 256
  pub others : without_text c ≡ rest

pub decoded : (disp : Display) (h : HostState) (w : ℕ) → w < 32768 → is_decoded (host_at h (text_setting disp)) (misc_of disp) (base_of disp + w) ≡ true
decoded Colour h w l = grind (arith, nat_tests)
decoded Monochrome h w l = grind (arith, nat_tests)

-- what a Put stores in plane 0 or 1
written : (disp : Display) (h : HostState) (b p : ℕ) → p < 2 → b < 256 → written_byte (host_at h (text_setting disp)) b p ≡ b
unfolding byte_of_bits written_bit combined_bit
written disp h b zero k l = byte_bits b l
written disp h b (suc zero) k l = byte_bits b l
written disp h b (suc (suc p)) k l = absurd (omega arith)

-- the memory when plane 0 and plane 1 each may have a new byte
abbrev reached_memory : HostState → Bool → Bool → ℕ → ℕ → ℕ → Four (List ℕ)
reached_memory h even odd o v w = record h.memory {
  plane0 = if even then slice_set h.memory.plane0 o v else h.memory.plane0;
  plane1 = if odd then slice_set h.memory.plane1 o w else h.memory.plane1;
}

-- which of the two planes a Put reaches, by computation
memory_by : (disp : Display) (h : HostState) (w b : ℕ) → memory_after_put (host_at h (text_setting disp)) w b
    ≡ reached_memory h (0 == w % 2) (1 == w % 2) (w / 2 * 2) (written_byte (host_at h (text_setting disp)) b 0)
    (written_byte (host_at h (text_setting disp)) b 1)
memory_by Colour h w b = refl
memory_by Monochrome h w b = refl

memory_is : (disp : Display) (h : HostState) (w b : ℕ) → b < 256 → memory_after_put (host_at h (text_setting disp)) w b
    ≡ reached_memory h (0 == w % 2) (1 == w % 2) (w / 2 * 2) b b
memory_is disp h w b l =
    memory_by disp h w b
    ∙ ap (λ v. reached_memory h (0 == w % 2) (1 == w % 2) (w / 2 * 2) v (written_byte (host_at h (text_setting disp)) b 1)) (written disp h b 0 (omega arith) l)
    ∙ ap (λ v. reached_memory h (0 == w % 2) (1 == w % 2) (w / 2 * 2) b v) (written disp h b 1 (omega arith) l)

pub window_is : (disp : Display) (h : HostState) (w : ℕ) → w < 32768 → window_offset (host_at h (text_setting disp)) (base_of disp + w) ≡ w
window_is Colour h w l = omega arith
window_is Monochrome h w l = omega arith

put_at : (disp : Display) (c : CardState) (w v : ℕ) → setting c ≡ text_setting disp → w < 32768 →
    (run card_meaning (put (base_of disp + w) v) c).0 ≡ with_memory c (memory_after_put (host_at c.host (text_setting disp)) w v)
put_at disp c w v e l =
    put_decoded c (text_setting disp) (base_of disp + w) v e (decoded disp c.host w l)
    ∙ ap (λ o. with_memory c (memory_after_put (host_at c.host (text_setting disp)) o v)) (window_is disp c.host w l)

small_cell : (m : ℕ → ℕ) (a b : ℕ) → b < 256 → ((w : ℕ) → w < 32768 → m w < 256) → (w : ℕ) → w < 32768 → set_cell m a b w < 256
small_cell m a b h t w l = ⊎_elim (λ (e : w ≡ a). let z = set_same m a b w e in omega arith) (λ (n : w ≢ a). let z = set_other m a b w n in let y = t w l in
    omega arith) (cases_eq w a)

-- a Put at any offset of the window
pub text_put : (disp : Display) (rest c : CardState) (m : ℕ → ℕ) (w b : ℕ) → w < 32768 → b < 256 → IsTextual disp rest c m →
    IsTextual disp rest (run card_meaning (put (base_of disp + w) b) c).0 (set_cell m w b)
text_put disp rest c m w b l h t =
    let even = 0 == w % 2 in
    let odd = 1 == w % 2 in
    let o = w / 2 * 2 in
    let p0 = c.host.memory.plane0 in
    let p1 = c.host.memory.plane1 in
    let still : IsTextual disp rest (with_memory c (reached_memory c.host even odd o b b)) (set_cell m w b) = record {
      mode = t.mode;
      size0 = kept_length even p0 o b ∙ t.size0;
      size1 = kept_length odd p1 o b ∙ t.size1;
      character = λ q k.
          let same : (even && (2 * q == o)) ≡ (2 * q == w) = grind (arith, nat_tests) in
          list_put even p0 o b (2 * q) (omega (arith, t.size0)) ∙ ap (λ x. if x then b else slice_index p0 (2 * q)) same
          ∙ ap (λ x. if 2 * q == w then b else x) (t.character q k);
      attribute = λ q k.
          let same : (odd && (2 * q == o)) ≡ (2 * q + 1 == w) = grind (arith, nat_tests) in
          list_put odd p1 o b (2 * q) (omega (arith, t.size1)) ∙ ap (λ x. if x then b else slice_index p1 (2 * q)) same
          ∙ ap (λ x. if 2 * q + 1 == w then b else x) (t.attribute q k);
      small = small_cell m w b h t.small;
      others = t.others;
    } in
    subst (λ x. IsTextual disp rest x (set_cell m w b)) (sym (put_at disp c w b t.mode l ∙ ap (with_memory c) (memory_is disp c.host w b h))) still
  where
    kept_length : (t : Bool) (p : List ℕ) (o b : ℕ) → length (if t then slice_set p o b else p) ≡ length p
    kept_length true p o b = length-set p o b
    kept_length false p o b = refl
