-- Reading the character at a cell of sixteen colours: the graphics controller compares the planes
-- with 0.
use Rattle.std.proofs.Common.{◌≡◌, ℕ, ◌+◌, ◌-◌, ◌*◌, ◌/◌, ◌%◌, ◌<◌, refl, sym, ap, ◌∙◌, arith, true}
use Rattle.std.specs.Prelude.{slice_index, ◌==◌, ◌&&◌, if◌then◌else◌}
use Rattle.std.specs.Int.{bit_at}
use Rattle.std.proofs.lemmas.Bool.Decides.{nat_tests}
use Rattle.bios_screen.proofs.Prelude.{is_set, Four, bytes_at, HostState, IsCard, card_meaning, CardState, ModeRow, BiosData, FontSet, Planar, Regs, cells_per_page}
use Rattle.bios_screen.proofs.Prelude.{write_graphics, run, Screen, page_pixels, pixel_screen, pixel_of}
use Rattle.vga_bits.specs.Bits.{byte_of_bits}
use Rattle.vga_host.specs.Memory.Read.{read_bit, read_byte}
use Rattle.bios_services.specs.CharacterReading.{read_nonzero_pixels_plan}
use Rattle.bios_services.specs.Cursor.{cursor_cell_number}
use Rattle.bios_screen.specs.Step.{pixel_line_as_byte}
use Rattle.bios_screen.proofs.Base.CellPlaces.{strip_at, strip_within}
use Rattle.bios_screen.proofs.Base.Setting.{host_at, reached, offset_is, get_decoded}
use Rattle.bios_screen.proofs.Text.Writes.{IsCellRead}
use Rattle.bios_screen.proofs.Pixels.Reads as reads
use Rattle.bios_screen.proofs.Pixels.Reads.{as_dot, byte_same, IsSeen}
use Rattle.bios_screen.proofs.Dots.PlanarDots.{IsPlanar}
use Rattle.bios_screen.proofs.Planar.Settings.{Hand, at_rest, drawing, without_host, get_loads, mode_set}
use Rattle.bios_screen.proofs.Planar.Bits.{nibble_of}
use Rattle.bios_screen.proofs.Planar.Characters.{Drawn}
use Rattle.bios_screen.proofs.Planar.Writes as writes
use Rattle.bios_screen.proofs.Planar.Screens as screens

-- the registers for read mode 1
abbrev pub seeing : Hand
seeing = record { mask = 0x0F; turn = 0x00; mode = 0x08; bits = 0xFF }

-- 1 if bit i is 0 in all four planes, else 0
abbrev none_of : Four ℕ → ℕ → ℕ
none_of q i = if (bit_at q.plane0 i == 0) && ((bit_at q.plane1 i == 0) && ((bit_at q.plane2 i == 0) && (bit_at q.plane3 i == 0))) then 1 else 0

abbrev nibble : Four ℕ → ℕ → ℕ
nibble q i = bit_at q.plane0 i + 2 * bit_at q.plane1 i + 4 * bit_at q.plane2 i + 8 * bit_at q.plane3 i

-- which pixels are not 0, as a byte; pixel 0 is the highest bit
abbrev pub dots_of : Four ℕ → ℕ
dots_of q = byte_of_bits (λ i. if nibble_of q (7 - i) == 0 then 0 else 1)

byte_is : (h : HostState) (e d a : ℕ) → a < 65536 → read_byte (host_at h (drawing e d seeing)) (0xA0000 + a) ≡ byte_of_bits (none_of (bytes_at h.memory a))
unfolding byte_of_bits read_bit
byte_is h e d a l = ap (λ o. byte_of_bits (none_of (bytes_at h.memory o))) (offset_is a l)

complement : (f g : ℕ → ℕ) → ((i : ℕ) → f i + g i ≡ 1) → 255 - byte_of_bits f ≡ byte_of_bits g
unfolding byte_of_bits
complement f g h =
    let h0 = h 0 in let h1 = h 1 in let h2 = h 2 in let h3 = h 3 in let h4 = h 4 in let h5 = h 5 in let h6 = h 6 in let h7 = h 7 in
    omega arith

either : (q : Four ℕ) (i : ℕ) → none_of q i + (if nibble q i == 0 then 0 else 1) ≡ 1
either q i = by_bits (bit_at q.plane0 i) (bit_at q.plane1 i) (bit_at q.plane2 i) (bit_at q.plane3 i)
  where
    by_bits : (a b e f : ℕ) → (if (a == 0) && ((b == 0) && ((e == 0) && (f == 0))) then 1 else 0) + (if a + 2 * b + 4 * e + 8 * f == 0 then 0 else 1) ≡ 1
    by_bits a b e f = grind (arith, nat_tests)

dots_are : (q : Four ℕ) → byte_of_bits (λ i. if nibble q i == 0 then 0 else 1) ≡ dots_of q
unfolding byte_of_bits
dots_are q = refl

-- reading a line of a cell
line_seen : (rest : CardState) (e d : ℕ) → is_set e 1 ≡ true → (a : ℕ) (c : CardState) (f : ℕ → Four ℕ) → a < 65536 →
    Drawn rest e d seeing c f → IsSeen (λ y. Drawn rest e d seeing y f) (read_nonzero_pixels_plan Planar (0xA0000 + a)) (dots_of (f a)) c
unfolding read_nonzero_pixels_plan
line_seen rest e d on a c f la t =
    let got = get_decoded c (drawing e d seeing) (0xA0000 + a) t.is.mode (reached (is_set e 1) a on la) in
    record {
      still = record { latches = f a; is = get_loads rest e d a seeing t.latches c f on t.is la };
      value = ap (λ n. 255 - n) (ap (λ r. r.1) got ∙ byte_is c.host e d a la ∙ ap (λ q. byte_of_bits (none_of q)) (t.is.cell a))
          ∙ complement (none_of (f a)) (λ i. if nibble (f a) i == 0 then 0 else 1) (either (f a)) ∙ dots_are (f a);
    }

module _ (row : ModeRow) (c : CardState) (d : BiosData) (t : IsPlanar row c d) (z : IsCard c) where
  abbrev s : Screen
  s = pixel_screen row c d

  abbrev w : ℕ
  w = d.columns

  abbrev h : ℕ
  h = d.height

  abbrev place : ℕ → ℕ → ℕ → ℕ
  place p q r = d.size * p + strip_at w h q r

  abbrev old : ℕ → Four ℕ
  old = bytes_at c.host.memory

  -- line r of cell q, from its byte in each plane
  line_is : (p q r : ℕ) → p < row.pages → q < cells_per_page d → r < h → dots_of (old (place p q r)) ≡ pixel_line_as_byte s p q r
  line_is p q r lp lq lr =
      let b = strip_at w h q r in
      let l = strip_within w h (d.last_row + 1) q r (writes.wide row c d t z) lr lq in
      let small = (screens.strip_small row c d t z b l).0 in
      let even : page_pixels d ≡ 8 * (w * (h * (d.last_row + 1))) = omega arith in
      byte_same (λ i. as_dot (nibble_of (old (d.size * p + b)) (7 - i))) (λ i. as_dot (pixel_of s p (8 * b + (7 - i)))) (λ i li.
      let k = 8 * b + (7 - i) in
      let strip : k / 8 ≡ b = omega arith in
      let dot : k % 8 ≡ 7 - i = omega arith in
      let less : k < page_pixels d = omega arith in
      ap as_dot (sym (screens.pixel_is row c d t z p k lp less ∙ ap (λ x. nibble_of (old (d.size * p + x)) (k % 8)) strip
      ∙ ap (nibble_of (old (d.size * p + b))) dot)))

  pub cell_read : (fonts : FontSet) (r : Regs) (p : ℕ) → p < row.pages → cursor_cell_number d p < cells_per_page d → IsCellRead fonts r c d p s
  cell_read fonts r p lp lq =
      let q = cursor_cell_number d p in
      let misc = row.misc in
      let clocking = slice_index row.sequencer 1 in
      let rest = without_host c in
      let text = t.text in
      let R : CardState → Type 0 = λ y. Drawn rest misc clocking seeing y old in
      reads.cell_read row c d fonts r p text
      (reads.character_seen row c d fonts p q Planar (λ r. 0xA0000 + place p q r) R
      (λ r y lr u. let seen = line_seen rest misc clocking t.enabled (place p q r) y old (writes.within row c d t z p q r lp lq lr).1 u in
      record { still = seen.still; value = seen.value ∙ line_is p q r lp lq lr })
      t.kind refl (λ r. writes.address_is row c d t z p q r)
      (record { latches = c.host.latches; is = mode_set rest misc clocking 0x08 at_rest c.host.latches c old refl refl (screens.begins row c d t z) })
      (λ y u. screens.stays row c d t z (run card_meaning (write_graphics 5 0x00) y).0 old u.latches
      (mode_set rest misc clocking 0x00 seeing u.latches y old refl refl u.is) (λ o. refl)))
