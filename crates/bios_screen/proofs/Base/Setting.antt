-- The registers that a memory cycle depends on, and what the cycle does if they are known.
use Rattle.std.proofs.Common.{◌≡◌, ℕ, ◌+◌, ◌-◌, ◌%◌, ◌<◌, List, Bool, true, sym, ap, ◌∙◌, arith}
use Rattle.std.specs.Prelude.{◌&&◌, nat_le, nat_lt}
use Rattle.std.proofs.lemmas.Bool.Decides.{nat_tests}
use Rattle.bios_screen.proofs.Prelude.{Four, HostState, card_meaning, CardState, run, put, get}
use Rattle.vga_host.specs.Memory.Address.{is_decoded, window_offset}
use Rattle.vga_host.specs.Memory.Write.{memory_after_put, after_put}
use Rattle.vga_host.specs.Memory.Read.{loaded, read_byte, after_get}
use Rattle.vga_card.specs.Adapter.{without_beam_and_dots}
use Rattle.vga_card.specs.Cycles.{card_after_write, card_after_read, if_decoded}
use Rattle.bios_services.specs.Plan.{read_byte_or_ff}

pub record Setting : Type 0 where
  pub misc : ℕ
  pub seq : List ℕ
  pub gfx : List ℕ

abbrev pub setting : CardState → Setting
setting c = record { misc = c.misc; seq = c.host.seq; gfx = c.host.gfx }

-- a host path with the registers of this setting
abbrev pub host_at : HostState → Setting → HostState
host_at h s = record h { seq = s.seq; gfx = s.gfx }

-- an adapter with the registers of this setting; with its own setting it is the same adapter
abbrev pub card_at : CardState → Setting → CardState
card_at c s = record c { host = host_at c.host s; misc = s.misc }

-- the adapter with other memory
abbrev pub with_memory : CardState → Four (List ℕ) → CardState
with_memory c m = record c { host = record c.host { memory = m } }

-- a graphics address A0000 + a is decoded if memory is enabled and a is below 65536
pub reached : (enabled : Bool) (a : ℕ) → enabled ≡ true → a < 65536 → (enabled && (nat_le 0xA0000 (0xA0000 + a) && nat_lt (0xA0000 + a) 0xB0000)) ≡ true
reached enabled a on l = ap (λ b. b && (nat_le 0xA0000 (0xA0000 + a) && nat_lt (0xA0000 + a) 0xB0000)) on ∙ grind (arith, nat_tests)

pub offset_is : (a : ℕ) → a < 65536 → (0xA0000 + a - 0xA0000) % 65536 ≡ a
offset_is a l = omega arith

-- a Put at a decoded address, by one equation for every setting
pub put_decoded : (c : CardState) (s : Setting) (a v : ℕ) → setting c ≡ s → is_decoded (host_at c.host s) s.misc a ≡ true →
    (run card_meaning (put a v) c).0 ≡ with_memory c (memory_after_put (host_at c.host s) (window_offset (host_at c.host s) a) v)
put_decoded c s a v e d =
    let memory = memory_after_put (host_at c.host s) (window_offset (host_at c.host s) a) v in
    ap (λ x. (run card_meaning (put a v) (card_at c x)).0) e
    ∙ ap (λ b. (card_after_write (card_at c s) (if_decoded b (record (without_beam_and_dots (card_at c s)) { host = after_put (host_at c.host s) a v }))).0) d
    ∙ ap (λ x. let y : CardState = record (card_at c x) { host = record (host_at c.host x) { memory = memory } } in y) (sym e)

-- a Get at a decoded address, likewise
pub get_decoded : (c : CardState) (s : Setting) (a : ℕ) → setting c ≡ s → is_decoded (host_at c.host s) s.misc a ≡ true →
    run card_meaning (get a) c ≡ (record c { host = record c.host { latches = loaded (host_at c.host s) a } }, read_byte (host_at c.host s) a)
get_decoded c s a e d =
    let latches = loaded (host_at c.host s) a in
    let v = read_byte (host_at c.host s) a in
    ap (λ x. run card_meaning (get a) (card_at c x)) e
    ∙ ap (λ b. let r = card_after_read (card_at c s) (if_decoded b (record (without_beam_and_dots (card_at c s)) { host = after_get (host_at c.host s) a }, v)) in
    let p : CardState × ℕ = (r.0, read_byte_or_ff r.1) in p) d
    ∙ ap (λ x. let p : CardState × ℕ = (record (card_at c x) { host = record (host_at c.host x) { latches = latches } }, v) in p) (sym e)
