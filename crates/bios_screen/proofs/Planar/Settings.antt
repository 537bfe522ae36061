-- Drawing in sixteen colours: the settings that a plan goes through, and what a Put, a Get and a
-- register write do in them.
use Rattle.std.proofs.Common.{◌≡◌, ◌≢◌, ℕ, ◌+◌, ◌<◌, ⊎_elim, refl, sym, ap, ◌∙◌, subst, arith, List, [], ◌∷◌, length, Bool, true, false}
use Rattle.std.specs.Prelude.{slice_index, slice_set, ◌==◌, ◌&&◌, if◌then◌else◌, bit_and}
use Rattle.std.proofs.lemmas.Bool.{cases_eq, agree_below_at}
use Rattle.std.proofs.lemmas.Bool.Decides.{nat_tests}
use Rattle.std.proofs.lemmas.List.{get_or-set_same, get_or-set_other}
use Rattle.bios_screen.proofs.Prelude.{is_set, Four, bytes_at, HostState, IsCard, card_meaning, CardState, Plan, run, put, get, write_graphics}
use Rattle.vga_bits.specs.Four.{four_by_plane, of_plane}
use Rattle.vga_bits.proofs.FourLemmas.{by_plane, same_four}
use Rattle.vga_host.specs.Memory.Address.{is_decoded, window_offset}
use Rattle.vga_host.specs.Memory.Write.{written_bit, combined_bit, written_byte, memory_after_put}
use Rattle.vga_host.specs.Memory.Read.{loaded}
use Rattle.vga_card.specs.Port.{port_of}
use Rattle.vga_card.specs.Adapter.{without_beam_and_dots}
use Rattle.vga_card.specs.Cycles.{card_after_write, unless_refused, out_reached}
use Rattle.bios_services.specs.Cycles.{write_sequencer}
use Rattle.bios_screen.proofs.Base.Flat.{set_cell, set_same, set_other}
use Rattle.bios_services.proofs.CardLemmas.{plan_bounds}
use Rattle.bios_screen.proofs.Base.Setting.{Setting, setting, host_at, with_memory, reached, offset_is, put_decoded, get_decoded}

-- the registers that a plan may change: map mask, function and rotate, mode, and bit mask
pub record Hand : Type 0 where
  pub mask : ℕ
  pub turn : ℕ
  pub mode : ℕ
  pub bits : ℕ

abbrev pub at_rest : Hand
at_rest = record { mask = 0x0F; turn = 0x00; mode = 0x00; bits = 0xFF }

-- the setting of a mode of sixteen colours, by miscellaneous output, clocking mode and a hand
abbrev pub drawing : ℕ → ℕ → Hand → Setting
drawing misc clocking h = record {
  misc = misc;
  seq = 0x03 ∷ clocking ∷ h.mask ∷ 0x00 ∷ 0x06 ∷ [];
  gfx = 0x00 ∷ 0x00 ∷ 0x00 ∷ h.turn ∷ 0x00 ∷ h.mode ∷ 0x05 ∷ 0x0F ∷ h.bits ∷ [];
}

-- a host path without memory: registers and latches decide what a write stores
abbrev pub bare : Setting → Four ℕ → HostState
bare s latches = record { memory = four_by_plane (λ p. []); latches = latches; seq = s.seq; gfx = s.gfx; seq_index = 0; gfx_index = 0 }

-- the byte of each plane after a Put of v under a map mask, with these latches
abbrev stored_in : Setting → ℕ → ℕ → Four ℕ → Four ℕ → ℕ → ℕ
stored_in s mask v latches old p = if is_set mask p then written_byte (bare s latches) v p else of_plane old p

abbrev pub stored : Setting → ℕ → ℕ → Four ℕ → Four ℕ → Four ℕ
stored s mask v latches old = four_by_plane (stored_in s mask v latches old)

-- all of an adapter except what drawing changes
abbrev pub without_host : CardState → CardState
without_host c = record c { host = record { memory = four_by_plane (λ p. []); latches = four_by_plane (λ p. 0); seq = []; gfx = []; seq_index = 0; gfx_index = 0 } }

-- the adapter is in this setting, its four planes are the cells f, and its latches are q
pub record Loaded (rest : CardState) (misc clocking : ℕ) (h : Hand) (c : CardState) (f : ℕ → Four ℕ) (q : Four ℕ) : Type 0 where
  pub mode : setting c ≡ drawing misc clocking h
  pub bounds : IsCard c
  pub cell : (o : ℕ) → bytes_at c.host.memory o ≡ f o
  pub others : without_host c ≡ rest
  pub latch : c.host.latches ≡ q

-- ---- a Put

and_true : (a : Bool) → (a && true) ≡ a
and_true true = refl
and_true false = refl

decoded : (h : HostState) (e d a : ℕ) (k : Hand) → is_set e 1 ≡ true → a < 65536 → is_decoded (host_at h (drawing e d k)) e (0xA0000 + a) ≡ true
decoded h e d a k b l = reached (is_set e 1) a b l

window_is : (h : HostState) (e d a : ℕ) (k : Hand) → a < 65536 → window_offset (host_at h (drawing e d k)) (0xA0000 + a) ≡ a
window_is h e d a k l = offset_is a l

-- what is stored depends on registers and latches alone
bare_byte : (h : HostState) (s : Setting) (v p : ℕ) → written_byte (host_at h s) v p ≡ written_byte (bare s h.latches) v p
unfolding written_bit combined_bit
bare_byte h s v p = refl

abbrev plane_put : Bool → List ℕ → ℕ → ℕ → List ℕ
plane_put t plane a x = if t then slice_set plane a x else plane

-- four planes, each of which may get a new byte at offset a
abbrev four_put : Four (List ℕ) → ℕ → Bool → Bool → Bool → Bool → ℕ → ℕ → ℕ → ℕ → Four (List ℕ)
four_put m a t0 t1 t2 t3 x0 x1 x2 x3 = record {
  plane0 = plane_put t0 m.plane0 a x0;
  plane1 = plane_put t1 m.plane1 a x1;
  plane2 = plane_put t2 m.plane2 a x2;
  plane3 = plane_put t3 m.plane3 a x3;
}

-- the memory after a Put
abbrev drawn_memory : Four (List ℕ) → Setting → ℕ → ℕ → ℕ → Four ℕ → Four (List ℕ)
drawn_memory m s mask a v q = four_by_plane (λ p. plane_put (is_set mask p) (of_plane m p) a (written_byte (bare s q) v p))

memory_is : (h : HostState) (e d a v : ℕ) (k : Hand) → memory_after_put (host_at h (drawing e d k)) a v
    ≡ drawn_memory h.memory (drawing e d k) k.mask a v h.latches
memory_is h e d a v k =
    let s = drawing e d k in
    let m = k.mask in
    let w : ℕ → ℕ = λ p. written_byte (host_at h s) v p in
    let b : ℕ → ℕ = λ p. written_byte (bare s h.latches) v p in
    ap (λ t. four_put h.memory a t (is_set m 1 && true) (is_set m 2 && true) (is_set m 3 && true) (w 0) (w 1) (w 2) (w 3)) (and_true (is_set m 0))
    ∙ ap (λ t. four_put h.memory a (is_set m 0) t (is_set m 2 && true) (is_set m 3 && true) (w 0) (w 1) (w 2) (w 3)) (and_true (is_set m 1))
    ∙ ap (λ t. four_put h.memory a (is_set m 0) (is_set m 1) t (is_set m 3 && true) (w 0) (w 1) (w 2) (w 3)) (and_true (is_set m 2))
    ∙ ap (λ t. four_put h.memory a (is_set m 0) (is_set m 1) (is_set m 2) t (w 0) (w 1) (w 2) (w 3)) (and_true (is_set m 3))
    ∙ ap (λ x. four_put h.memory a (is_set m 0) (is_set m 1) (is_set m 2) (is_set m 3) x (w 1) (w 2) (w 3)) (bare_byte h s v 0)
    ∙ ap (λ x. four_put h.memory a (is_set m 0) (is_set m 1) (is_set m 2) (is_set m 3) (b 0) x (w 2) (w 3)) (bare_byte h s v 1)
    ∙ ap (λ x. four_put h.memory a (is_set m 0) (is_set m 1) (is_set m 2) (is_set m 3) (b 0) (b 1) x (w 3)) (bare_byte h s v 2)
    ∙ ap (λ x. four_put h.memory a (is_set m 0) (is_set m 1) (is_set m 2) (is_set m 3) (b 0) (b 1) (b 2) x) (bare_byte h s v 3)

put_is : (c : CardState) (e d a v : ℕ) (k : Hand) → setting c ≡ drawing e d k → is_set e 1 ≡ true → a < 65536 →
    (run card_meaning (put (0xA0000 + a) v) c).0 ≡ with_memory c (drawn_memory c.host.memory (drawing e d k) k.mask a v c.host.latches)
put_is c e d a v k m b l =
    put_decoded c (drawing e d k) (0xA0000 + a) v m (decoded c.host e d a k b l)
    ∙ ap (λ o. with_memory c (memory_after_put (host_at c.host (drawing e d k)) o v)) (window_is c.host e d a k l)
    ∙ ap (with_memory c) (memory_is c.host e d a v k)

plane_same : (t : Bool) (plane : List ℕ) (a x : ℕ) → a < length plane → slice_index (plane_put t plane a x) a ≡ (if t then x else slice_index plane a)
plane_same true plane a x l = get_or-set_same plane a x 0 l
plane_same false plane a x l = refl

plane_other : (t : Bool) (plane : List ℕ) (a x o : ℕ) → o ≢ a → slice_index (plane_put t plane a x) o ≡ slice_index plane o
plane_other true plane a x o n = get_or-set_other plane a o x 0 n
plane_other false plane a x o n = refl

pub put_draws : (rest : CardState) (e d a v : ℕ) (k : Hand) (q : Four ℕ) (c : CardState) (f : ℕ → Four ℕ) → is_set e 1 ≡ true →
    Loaded rest e d k c f q → a < 65536 → Loaded rest e d k (run card_meaning (put (0xA0000 + a) v) c).0
    (set_cell f a (stored (drawing e d k) k.mask v q (f a))) q
put_draws rest e d a v k q c f on t l =
    let s = drawing e d k in
    let m = c.host.memory in
    let size = t.bounds.host.memory.size in
    let n = drawn_memory m s k.mask a v q in
    let new = stored s k.mask v q (f a) in
    let after : (run card_meaning (put (0xA0000 + a) v) c).0 ≡ with_memory c n = put_is c e d a v k t.mode on l
    ∙ ap (λ y. with_memory c (drawn_memory m s k.mask a v y)) t.latch in
    let still : Loaded rest e d k (with_memory c n) (set_cell f a new) q = record {
      mode = t.mode;
      bounds = subst IsCard after (plan_bounds (put (0xA0000 + a) v) c t.bounds);
      cell = λ o. ⊎_elim
          (λ (z : o ≡ a).
          ap (bytes_at n) z
          ∙ same_four (bytes_at n a) (stored s k.mask v q (bytes_at m a)) (by_plane (λ p. of_plane (bytes_at n a) p
          ≡ of_plane (stored s k.mask v q (bytes_at m a)) p)
          (plane_same (is_set k.mask 0) m.plane0 a _ (omega (arith, size 0 (omega arith))))
          (plane_same (is_set k.mask 1) m.plane1 a _ (omega (arith, size 1 (omega arith))))
          (plane_same (is_set k.mask 2) m.plane2 a _ (omega (arith, size 2 (omega arith))))
          (plane_same (is_set k.mask 3) m.plane3 a _ (omega (arith, size 3 (omega arith)))))
          ∙ ap (stored s k.mask v q) (t.cell a)
          ∙ sym (set_same f a new o z))
          (λ (y : o ≢ a).
          same_four (bytes_at n o) (bytes_at m o) (by_plane (λ p. of_plane (bytes_at n o) p ≡ of_plane (bytes_at m o) p)
          (plane_other (is_set k.mask 0) m.plane0 a _ o y) (plane_other (is_set k.mask 1) m.plane1 a _ o y) (plane_other (is_set k.mask 2) m.plane2 a _ o y)
          (plane_other (is_set k.mask 3) m.plane3 a _ o y))
          ∙ t.cell o ∙ sym (set_other f a new o y))
          (cases_eq o a);
      others = t.others;
      latch = t.latch;
    } in
    subst (λ x. Loaded rest e d k x (set_cell f a new) q) (sym after) still

-- a Get at offset a loads the latches with the cell there
pub get_loads : (rest : CardState) (e d a : ℕ) (k : Hand) (q : Four ℕ) (c : CardState) (f : ℕ → Four ℕ) → is_set e 1 ≡ true →
    Loaded rest e d k c f q → a < 65536 → Loaded rest e d k (run card_meaning (get (0xA0000 + a)) c).0 f (f a)
get_loads rest e d a k q c f on t l =
    let s = drawing e d k in
    let x : CardState = record c { host = record c.host { latches = loaded (host_at c.host s) (0xA0000 + a) } } in
    let after = ap (λ y. y.0) (get_decoded c s (0xA0000 + a) t.mode (decoded c.host e d a k on l)) in
    let still : Loaded rest e d k x f (f a) = record {
      mode = t.mode;
      bounds = subst IsCard after (plan_bounds (get (0xA0000 + a)) c t.bounds);
      cell = t.cell;
      others = t.others;
      latch = ap (bytes_at c.host.memory) (window_is c.host e d a k l) ∙ t.cell a;
    } in
    subst (λ y. Loaded rest e d k y f (f a)) (sym after) still

-- ---- registers

and_15 : (m : ℕ) → m < 16 → bit_and m 0x0F ≡ m
and_15 m l = let t = agree_below_at (λ m. bit_and m 0x0F == m) (λ _. true) 16 m refl l in grind (arith, nat_tests)

-- a write to a register of the sequencer or the graphics controller, which sets the hand n
hand_set : (rest : CardState) (e d : ℕ) (k n : Hand) (q : Four ℕ) (c : CardState) (f : ℕ → Four ℕ) (plan : Plan (Unit {0}))
    (seq gfx : List ℕ) (i j : ℕ)
    → (run card_meaning plan c).0 ≡ record c { host = record c.host { seq = seq; gfx = gfx; seq_index = i; gfx_index = j } }
    → (let s : Setting = record { misc = c.misc; seq = seq; gfx = gfx } in s) ≡ drawing e d n → Loaded rest e d k c f q →
    Loaded rest e d n (run card_meaning plan c).0 f q
hand_set rest e d k n q c f plan seq gfx i j after mode t = subst (λ y. Loaded rest e d n y f q) (sym after) (record {
  mode = mode;
  bounds = subst IsCard after (plan_bounds plan c t.bounds);
  cell = t.cell;
  others = t.others;
  latch = t.latch;
})

-- a setting with another value in register i of the sequencer, or of the graphics controller
abbrev with_seq : ℕ → ℕ → Setting → Setting
with_seq i v s = record s { seq = slice_set s.seq i v }

abbrev with_gfx : ℕ → ℕ → Setting → Setting
with_gfx i v s = record s { gfx = slice_set s.gfx i v }

-- the map mask is set
pub mask_set : (rest : CardState) (e d m : ℕ) (k : Hand) (q : Four ℕ) (c : CardState) (f : ℕ → Four ℕ) → m < 16 → Loaded rest e d k c f q →
    Loaded rest e d (record k { mask = m }) (run card_meaning (write_sequencer 2 m) c).0 f q
unfolding port_of out_reached
mask_set rest e d m k q c f l t =
    hand_set rest e d k (record k { mask = m }) q c f (write_sequencer 2 m) (slice_set c.host.seq 2 (bit_and m 0x0F)) c.host.gfx 2 c.host.gfx_index refl
    (ap (with_seq 2 (bit_and m 0x0F)) t.mode ∙ ap (λ x. drawing e d (record k { mask = x })) (and_15 m l)) t

-- the function and the rotation are set
pub function_set : (rest : CardState) (e d v : ℕ) (k : Hand) (q : Four ℕ) (c : CardState) (f : ℕ → Four ℕ) → bit_and v 0x1F ≡ v →
    Loaded rest e d k c f q → Loaded rest e d (record k { turn = v }) (run card_meaning (write_graphics 3 v) c).0 f q
unfolding port_of out_reached
function_set rest e d v k q c f l t =
    hand_set rest e d k (record k { turn = v }) q c f (write_graphics 3 v) c.host.seq (slice_set c.host.gfx 3 (bit_and v 0x1F)) c.host.seq_index 3 refl
    (ap (with_gfx 3 (bit_and v 0x1F)) t.mode ∙ ap (λ x. drawing e d (record k { turn = x })) l) t

-- read mode and write mode are set; bit 5 must be 0, for it is refused
pub mode_set : (rest : CardState) (e d v : ℕ) (k : Hand) (q : Four ℕ) (c : CardState) (f : ℕ → Four ℕ) → bit_and v 0x7B ≡ v →
    is_set v 5 ≡ false → Loaded rest e d k c f q → Loaded rest e d (record k { mode = v }) (run card_meaning (write_graphics 5 v) c).0 f q
unfolding port_of out_reached
mode_set rest e d v k q c f l b t =
    let index : CardState = record c { host = record c.host { gfx_index = 5 } } in
    let next = record (without_beam_and_dots index) { host = record index.host { gfx = slice_set c.host.gfx 5 (bit_and v 0x7B) } } in
    hand_set rest e d k (record k { mode = v }) q c f (write_graphics 5 v) c.host.seq (slice_set c.host.gfx 5 (bit_and v 0x7B)) c.host.seq_index 5
    (ap (λ y. (card_after_write index (unless_refused y next)).0) b)
    (ap (with_gfx 5 (bit_and v 0x7B)) t.mode ∙ ap (λ x. drawing e d (record k { mode = x })) l) t

-- the bit mask is set
pub bits_set : (rest : CardState) (e d v : ℕ) (k : Hand) (q : Four ℕ) (c : CardState) (f : ℕ → Four ℕ) → bit_and v 0xFF ≡ v →
    Loaded rest e d k c f q → Loaded rest e d (record k { bits = v }) (run card_meaning (write_graphics 8 v) c).0 f q
unfolding port_of out_reached
bits_set rest e d v k q c f l t =
    hand_set rest e d k (record k { bits = v }) q c f (write_graphics 8 v) c.host.seq (slice_set c.host.gfx 8 (bit_and v 0xFF)) c.host.seq_index 8 refl
    (ap (with_gfx 8 (bit_and v 0xFF)) t.mode ∙ ap (λ x. drawing e d (record k { bits = x })) l) t
