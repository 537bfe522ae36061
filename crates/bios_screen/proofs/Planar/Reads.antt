-- Reading a pixel of sixteen colours, plane by plane.
use Rattle.std.proofs.Common.{◌≡◌, ℕ, ◌+◌, ◌-◌, ◌*◌, ◌/◌, ◌%◌, ◌<◌, refl, sym, ap, ◌∙◌, subst, arith, List, [], ◌∷◌, Some, true}
use Rattle.std.specs.Prelude.{slice_index, slice_set, bit_and, if◌then◌else◌}
use Rattle.std.specs.Int.{bit_at}
use Rattle.bios_screen.proofs.Prelude.{is_set, HostState, IsCard, card_meaning, CardState, ModeRow, BiosData, is_mode_of_256_colours, write_graphics, Plan, run, get, Screen}
use Rattle.bios_screen.proofs.Prelude.{pixel_in, pixel_screen, shown, pixel_of}
use Rattle.vga_bits.specs.Bits.{byte_of_bits}
use Rattle.vga_bits.proofs.BitLemmas.{byte_bits}
use Rattle.vga_bits.specs.Four.{four_by_plane}
use Rattle.vga_bits.proofs.FourLemmas.{by_plane}
use Rattle.vga_planes.specs.Planes.{byte_at}
use Rattle.vga_host.specs.Memory.Read.{read_bit, read_byte}
use Rattle.vga_card.specs.Port.{port_of}
use Rattle.vga_card.specs.Cycles.{out_reached}
use Rattle.bios_services.specs.Pixels.{pixel_address, read_planar_pixel_plan, read_pixel_plan}
use Rattle.bios_screen.proofs.Base.Setting.{Setting, setting, host_at, reached, offset_is, get_decoded}
use Rattle.bios_screen.proofs.Pixels.NewPixels.{There, number_within, pixels_stay}
use Rattle.bios_screen.proofs.Planar.Settings.{without_host}
use Rattle.bios_screen.proofs.Dots.PlanarDots.{IsPlanar}
use Rattle.bios_screen.proofs.Planar.Screens as screens
use Rattle.bios_screen.proofs.Pixels.Reads.{IsSeen}

-- ---- one plane is selected and read

abbrev picking : ℕ → ℕ → ℕ → Setting
picking misc clocking p = record {
  misc = misc;
  seq = 0x03 ∷ clocking ∷ 0x0F ∷ 0x00 ∷ 0x06 ∷ [];
  gfx = 0x00 ∷ 0x00 ∷ 0x00 ∷ 0x00 ∷ p ∷ 0x00 ∷ 0x05 ∷ 0x0F ∷ 0xFF ∷ [];
}

-- all of an adapter except what a read changes
abbrev without_reads : CardState → CardState
without_reads c = record c { host = record c.host { latches = four_by_plane (λ p. 0); seq = []; gfx = []; gfx_index = 0 } }

record IsPicking (rest : CardState) (e k p : ℕ) (c : CardState) : Type 0 where
  mode : setting c ≡ picking e k p
  others : without_reads c ≡ rest

pick_set : (rest : CardState) (e k p v : ℕ) (c : CardState) → bit_and v 3 ≡ v → IsPicking rest e k p c →
    IsPicking rest e k v (run card_meaning (write_graphics 4 v) c).0
unfolding port_of out_reached
pick_set rest e k p v c l t = record {
  mode = ap (λ (s : Setting). let x : Setting = record s { gfx = slice_set s.gfx 4 (bit_and v 3) } in x) t.mode ∙ ap (picking e k) l;
  others = t.others;
}

byte_is : (h : HostState) (e k a : ℕ) → a < 65536 → (p : ℕ) → p < 4 → byte_at h.memory p a < 256 →
    read_byte (host_at h (picking e k p)) (0xA0000 + a) ≡ byte_at h.memory p a
unfolding byte_of_bits read_bit
byte_is h e k a l =
    let m = h.memory in
    by_plane (λ p. byte_at m p a < 256 → read_byte (host_at h (picking e k p)) (0xA0000 + a) ≡ byte_at m p a)
    (byte m.plane0) (byte m.plane1) (byte m.plane2) (byte m.plane3)
  where
    byte : (plane : List ℕ) → slice_index plane a < 256 → byte_of_bits (bit_at (slice_index plane ((0xA0000 + a - 0xA0000) % 65536))) ≡ slice_index plane a
    byte plane b = ap (λ o. byte_of_bits (bit_at (slice_index plane o))) (offset_is a l) ∙ byte_bits (slice_index plane a) b

-- a Get answers the byte of the selected plane
record IsPicked (rest : CardState) (e k p a : ℕ) (c : CardState) : Type 0 where
  still : IsPicking rest e k p (run card_meaning (get (0xA0000 + a)) c).0
  value : (run card_meaning (get (0xA0000 + a)) c).1 ≡ byte_at rest.host.memory p a

pick_get : (rest : CardState) (e k p a : ℕ) (c : CardState) → p < 4 → a < 65536 → is_set e 1 ≡ true → byte_at rest.host.memory p a < 256 →
    IsPicking rest e k p c → IsPicked rest e k p a c
pick_get rest e k p a c lp la on b t =
    let r = get_decoded c (picking e k p) (0xA0000 + a) t.mode (reached (is_set e 1) a on la) in
    let memory : c.host.memory ≡ rest.host.memory = ap (λ (x : CardState). x.host.memory) t.others in
    record {
      still = subst (λ y. IsPicking rest e k p y.0) (sym r) (record { mode = t.mode; others = t.others });
      value = ap (λ y. y.1) r ∙ byte_is c.host e k a la p lp (subst (λ m. byte_at m p a < 256) (sym memory) b) ∙ ap (λ m. byte_at m p a) memory;
    }

-- all four planes are read, one after another
record IsDotRead (rest : CardState) (e k a x : ℕ) (c : CardState) : Type 0 where
  still : IsPicking rest e k 0 (run card_meaning (read_planar_pixel_plan (0xA0000 + a) x) c).0
  value : (run card_meaning (read_planar_pixel_plan (0xA0000 + a) x) c).1 ≡ bit_at (byte_at rest.host.memory 0 a) (7 - x % 8)
      + 2 * bit_at (byte_at rest.host.memory 1 a) (7 - x % 8) + 4 * bit_at (byte_at rest.host.memory 2 a) (7 - x % 8)
      + 8 * bit_at (byte_at rest.host.memory 3 a) (7 - x % 8)

dot_read : (rest : CardState) (e k a x : ℕ) (c : CardState) → a < 65536 → is_set e 1 ≡ true → ((p : ℕ) → p < 4 → byte_at rest.host.memory p a < 256) →
    IsPicking rest e k 0 c → IsDotRead rest e k a x c
unfolding read_planar_pixel_plan
dot_read rest e k a x c la on b t =
    let m = rest.host.memory in
    let g = get (0xA0000 + a) in
    let c0 = (run card_meaning (write_graphics 4 0) c).0 in
    let t0 = pick_get rest e k 0 a c0 (omega arith) la on (b 0 (omega arith)) (pick_set rest e k 0 0 c refl t) in
    let c1 = (run card_meaning (write_graphics 4 1) (run card_meaning g c0).0).0 in
    let t1 = pick_get rest e k 1 a c1 (omega arith) la on (b 1 (omega arith)) (pick_set rest e k 0 1 (run card_meaning g c0).0 refl t0.still) in
    let c2 = (run card_meaning (write_graphics 4 2) (run card_meaning g c1).0).0 in
    let t2 = pick_get rest e k 2 a c2 (omega arith) la on (b 2 (omega arith)) (pick_set rest e k 1 2 (run card_meaning g c1).0 refl t1.still) in
    let c3 = (run card_meaning (write_graphics 4 3) (run card_meaning g c2).0).0 in
    let t3 = pick_get rest e k 3 a c3 (omega arith) la on (b 3 (omega arith)) (pick_set rest e k 2 3 (run card_meaning g c2).0 refl t2.still) in
    let j = 7 - x % 8 in
    record {
      still = pick_set rest e k 3 0 (run card_meaning g c3).0 refl t3.still;
      value = rw (t0.value, t1.value, t2.value, t3.value) refl;
    }

-- ---- numbers of the modes

sum_is : (a b : ℕ) → 0xA0000 + a + b ≡ 0xA0000 + (a + b)
sum_is a b = omega arith

eighth : (w y x : ℕ) → w * y + x / 8 ≡ (8 * w * y + x) / 8
eighth w y x = let e : 8 * w * y ≡ 8 * (w * y) = omega arith in omega arith

pub rest_of_8 : (w y x : ℕ) → x % 8 ≡ (8 * w * y + x) % 8
rest_of_8 w y x = let e : 8 * w * y ≡ 8 * (w * y) = omega arith in omega arith

module _ (row : ModeRow) (c : CardState) (d : BiosData) (t : IsPlanar row c d) (z : IsCard c) where
  abbrev s : Screen
  s = pixel_screen row c d

  abbrev number : ℕ → ℕ → ℕ
  number x y = 8 * d.columns * y + x

  -- the offset of a pixel's byte, which is the same in each plane
  abbrev offset : ℕ → ℕ → ℕ → ℕ
  offset p x y = d.size * p + number x y / 8

  pub offset_small : (p x y : ℕ) → p < row.pages → There d x y → offset p x y < 65536
  offset_small p x y lp h = screens.in_memory row c d t z p (number x y) lp (number_within d x y h)

  pub address_is : (p x y : ℕ) → pixel_address d p x y ≡ 0xA0000 + offset p x y
  address_is p x y =
      ap (λ i. i + d.size * p + (if is_mode_of_256_colours d.mode then 8 * d.columns * y + x else d.columns * y + x / 8)) t.base
      ∙ ap (λ b. 0xA0000 + d.size * p + (if b then 8 * d.columns * y + x else d.columns * y + x / 8)) t.packed
      ∙ sum_is (d.size * p) (d.columns * y + x / 8)
      ∙ ap (λ i. 0xA0000 + (d.size * p + i)) (eighth d.columns y x)

  read_is : (p x y : ℕ) → read_pixel_plan d p x y ≡ read_planar_pixel_plan (0xA0000 + offset p x y) x
  unfolding read_pixel_plan
  read_is p x y =
      ap (λ b. let q : Plan ℕ = (if b then get (pixel_address d p x y) else read_planar_pixel_plan (pixel_address d p x y) x) in q) t.packed
      ∙ ap (λ a. read_planar_pixel_plan a x) (address_is p x y)

  begins : IsPicking (without_reads c) row.misc (slice_index row.sequencer 1) 0 c
  begins = record { mode = screens.setting_is row c d t z; others = refl }

  dot : (p x y : ℕ) → p < row.pages → There d x y →
      IsDotRead (without_reads c) row.misc (slice_index row.sequencer 1) (offset p x y) x c
  dot p x y lp h = dot_read (without_reads c) row.misc (slice_index row.sequencer 1) (offset p x y) x c (offset_small p x y lp h)
      t.enabled (λ q l. z.host.memory.bytes q l (offset p x y)) begins

  pixel_is : (p x y : ℕ) → p < row.pages → There d x y → (run card_meaning (read_planar_pixel_plan (0xA0000 + offset p x y) x) c).1 ≡ pixel_of s p (number x y)
  pixel_is p x y lp h =
      let n = number x y in
      let f = c.host.memory in
      (dot p x y lp h).value
      ∙ ap (λ i. bit_at (byte_at f 0 (offset p x y)) (7 - i) + 2 * bit_at (byte_at f 1 (offset p x y)) (7 - i) + 4 * bit_at (byte_at f 2 (offset p x y)) (7 - i)
      + 8 * bit_at (byte_at f 3 (offset p x y)) (7 - i)) (rest_of_8 d.columns y x)
      ∙ sym (screens.pixel_is row c d t z p n lp (number_within d x y h))

  -- the screen stays the same
  stays : (y : CardState) → IsPicking (without_reads c) row.misc (slice_index row.sequencer 1) 0 y → shown y d ≡ Some s
  stays y h = pixels_stay row c y d (t.there d.height) t.text t.tests (h.mode ∙ sym begins.mode) (ap without_host h.others) (λ g k _ _.
      ap (λ (x : CardState). pixel_in d.mode x.host.memory (d.size * g) k) h.others)

  pub pixel_read : (p x y : ℕ) → p < row.pages → There d x y →
      IsSeen (λ y. shown y d ≡ Some s) (read_pixel_plan d p x y) (pixel_of s p (number x y)) c
  pixel_read p x y lp h = record {
    value = ap (λ i. (run card_meaning i c).1) (read_is p x y) ∙ pixel_is p x y lp h;
    still = ap (λ i. shown (run card_meaning i c).0 d) (read_is p x y) ∙ stays (run card_meaning (read_planar_pixel_plan (0xA0000 + offset p x y) x) c).0
        (dot p x y lp h).still;
  }
