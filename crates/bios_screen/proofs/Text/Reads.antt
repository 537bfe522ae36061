-- What a read of text memory answers, and what it leaves.
use Rattle.std.proofs.Common.{◌≡◌, ◌≢◌, ℕ, ◌+◌, ◌*◌, ◌/◌, ◌%◌, ◌<◌, ⊎_elim, refl, sym, ap, ◌∙◌, subst, arith}
use Rattle.std.proofs.lemmas.Bool.{cases_eq}
use Rattle.vga_bits.specs.Bits.{byte_of_bits}
use Rattle.vga_bits.proofs.BitLemmas.{byte_bits}
use Rattle.vga_bits.specs.Four.{of_plane}
use Rattle.bios_screen.proofs.Prelude.{bytes_at, HostState, card_meaning, CardState, run, get}
use Rattle.vga_host.specs.Memory.Address.{plane_offset}
use Rattle.vga_host.specs.Memory.Read.{read_bit, read_byte, loaded}
use Rattle.bios_screen.proofs.Base.Setting.{host_at, get_decoded}
use Rattle.bios_screen.proofs.Modes.TextModes.{Display, base_of, text_setting}
use Rattle.bios_screen.proofs.Modes.TextModes.Display.{Colour, Monochrome}
use Rattle.bios_screen.proofs.Text.Memory.{bits_of, IsTextual, decoded, window_is}

-- the byte that a read answers, by computation
read_at : (disp : Display) (h : HostState) (w : ℕ) → byte_of_bits (λ i. read_bit (host_at h (text_setting disp)) w
    (bytes_at h.memory (plane_offset (host_at h (text_setting disp)) w)) i) ≡ bits_of (of_plane (bytes_at h.memory (w / 2 * 2)) (0 + w % 2))
unfolding byte_of_bits read_bit
read_at Colour h w = refl
read_at Monochrome h w = refl

read_is : (disp : Display) (h : HostState) (w : ℕ) → w < 32768 → read_byte (host_at h (text_setting disp)) (base_of disp + w)
    ≡ bits_of (of_plane (bytes_at h.memory (w / 2 * 2)) (0 + w % 2))
read_is disp h w l = ap (λ o. byte_of_bits (λ i. read_bit (host_at h (text_setting disp)) o (bytes_at h.memory (plane_offset (host_at h (text_setting disp)) o)) i))
    (window_is disp h w l) ∙ read_at disp h w

-- that byte of plane 0 or 1 is the one at offset w of the window
byte_is : (disp : Display) (rest c : CardState) (m : ℕ → ℕ) (w : ℕ) → w < 32768 → IsTextual disp rest c m →
    of_plane (bytes_at c.host.memory (w / 2 * 2)) (0 + w % 2) ≡ m w
byte_is disp rest c m w l t =
    let q = w / 2 in
    let there : q * 2 ≡ 2 * q = omega arith in
    let plane : (p : ℕ) → 0 + w % 2 ≡ p → of_plane (bytes_at c.host.memory (q * 2)) (0 + w % 2) ≡ of_plane (bytes_at c.host.memory (2 * q)) p = λ p e.
    ap (of_plane (bytes_at c.host.memory (q * 2))) e ∙ ap (λ o. of_plane (bytes_at c.host.memory o) p) there in
    ⊎_elim
    (λ (e : w % 2 ≡ 0). let same : 2 * q ≡ w = omega arith in plane 0 (omega arith) ∙ t.character q (omega arith) ∙ ap m same)
    (λ (n : w % 2 ≢ 0). let same : 2 * q + 1 ≡ w = omega arith in plane 1 (omega arith) ∙ t.attribute q (omega arith) ∙ ap m same)
    (cases_eq (w % 2) 0)

answer_is : (disp : Display) (rest c : CardState) (m : ℕ → ℕ) (w : ℕ) → w < 32768 → IsTextual disp rest c m →
    read_byte (host_at c.host (text_setting disp)) (base_of disp + w) ≡ m w
answer_is disp rest c m w l t = read_is disp c.host w l ∙ ap bits_of (byte_is disp rest c m w l t) ∙ byte_bits (m w) (t.small w l)

-- a read in text answers the byte at its offset, and leaves the text as it is
pub record Answers (disp : Display) (rest : CardState) (m : ℕ → ℕ) (w : ℕ) (r : CardState × ℕ) : Type 0 where
  pub text : IsTextual disp rest r.0 m
  pub answer : r.1 ≡ m w

pub text_get : (disp : Display) (rest c : CardState) (m : ℕ → ℕ) (w : ℕ) → w < 32768 → IsTextual disp rest c m →
    Answers disp rest m w (run card_meaning (get (base_of disp + w)) c)
text_get disp rest c m w l t =
    let x : CardState = record c { host = record c.host { latches = loaded (host_at c.host (text_setting disp)) (base_of disp + w) } } in
    let p : CardState × ℕ = (x, read_byte (host_at c.host (text_setting disp)) (base_of disp + w)) in
    let a : Answers disp rest m w p = record {
      text = record { mode = t.mode; size0 = t.size0; size1 = t.size1; character = t.character; attribute = t.attribute; small = t.small; others = t.others };
      answer = answer_is disp rest c m w l t;
    } in
    subst (Answers disp rest m w) (sym (get_decoded c (text_setting disp) (base_of disp + w) t.mode (decoded disp c.host w l))) a
