-- Reading the character at the cursor in 256 colours: the first whose glyph matches the pixels.
use Rattle.std.proofs.Common.{◌≡◌, ℕ, zero, suc, ◌+◌, ◌-◌, ◌*◌, ◌%◌, ◌<◌, refl, sym, ap, ◌∙◌, subst, arith, Bool, true, false}
use Rattle.std.specs.Prelude.{◌==◌, if◌then◌else◌}
use Rattle.vga_bits.specs.Bits.{byte_of_bits}
use Rattle.bios_screen.proofs.Prelude.{IsCard, card_meaning, CardState, bytes_320_by_200, BiosData, FontSet, Regs, cells_per_page, kind_of, Plan, run, get, Screen}
use Rattle.bios_screen.proofs.Prelude.{pixel_of_256_colours, pixel_screen, pixel_of}
use Rattle.bios_modes.specs.declared.kind.Kind.TheVariants.{Packed}
use Rattle.bios_services.specs.Cursor.{cursor_cell_number}
use Rattle.bios_services.specs.Plan.{fold}
use Rattle.bios_services.specs.CharacterReading.{shift_pixel_into_line, read_nonzero_pixels_in_256_colours, read_nonzero_pixels_plan}
use Rattle.bios_screen.specs.Step.{pixel_line_as_byte}
use Rattle.bios_screen.proofs.Base.Plans.{run_bind}
use Rattle.bios_screen.proofs.Dots.PackedDots.{IsPacked}
use Rattle.bios_screen.proofs.Packed.Screens as screens
use Rattle.bios_screen.proofs.Packed.Screens.{IsFlat, get_flat}
use Rattle.bios_screen.proofs.Packed.Writes as writes
use Rattle.bios_screen.proofs.Planar.Settings.{without_host}
use Rattle.bios_screen.proofs.Base.CellPlaces.{strip_at}
use Rattle.bios_screen.proofs.Pixels.Reads as reads
use Rattle.bios_screen.proofs.Pixels.Reads.{as_dot, byte_same, IsSeen}
use Rattle.bios_screen.proofs.Text.Writes.{IsCellRead}

dot_small : (n : ℕ) → as_dot n < 2
dot_small n = by_test (n == 0)
  where
    by_test : (b : Bool) → (if b then 0 else 1) < 2
    by_test true = omega arith
    by_test false = omega arith

-- the byte x after n pixels, from pixel i on, are shifted in as bits
abbrev shifted : (ℕ → ℕ) → ℕ → ℕ → ℕ → ℕ
shifted f zero i x = x
shifted f (suc n) i x = shifted f n (i + 1) ((2 * x + as_dot (f i)) % 256)

-- eight bits, shifted in one after another, make a byte
horner : (b0 b1 b2 b3 b4 b5 b6 b7 : ℕ) → b0 < 2 → b1 < 2 → b2 < 2 → b3 < 2 → b4 < 2 → b5 < 2 → b6 < 2 → b7 < 2 →
    (2 * ((2 * ((2 * ((2 * ((2 * ((2 * ((2 * ((2 * 0 + b0) % 256) + b1) % 256) + b2) % 256) + b3) % 256) + b4) % 256) + b5) % 256) + b6) % 256) + b7) % 256
    ≡ b7 + 2 * b6 + 4 * b5 + 8 * b4 + 16 * b3 + 32 * b2 + 64 * b1 + 128 * b0
horner b0 b1 b2 b3 b4 b5 b6 b7 h0 h1 h2 h3 h4 h5 h6 h7 = omega arith

byte_shifted : (f : ℕ → ℕ) → shifted f 8 0 0 ≡ byte_of_bits (λ i. as_dot (f (7 - i)))
unfolding byte_of_bits
byte_shifted f =
    horner (as_dot (f 0)) (as_dot (f 1)) (as_dot (f 2)) (as_dot (f 3)) (as_dot (f 4)) (as_dot (f 5)) (as_dot (f 6)) (as_dot (f 7))
    (dot_small (f 0)) (dot_small (f 1)) (dot_small (f 2)) (dot_small (f 3)) (dot_small (f 4)) (dot_small (f 5)) (dot_small (f 6)) (dot_small (f 7))

module _ (rest : CardState) where
  abbrev one : ℕ → ℕ → ℕ → Plan ℕ
  one a i x = shift_pixel_into_line (0xA0000 + a + i) x

  dots_shifted : (a n i x : ℕ) (c : CardState) (f : ℕ → ℕ) → a + i + n < 65536 → IsFlat rest c f →
      IsSeen (λ y. IsFlat rest y f) (fold (one a) n i x) (shifted (λ j. f (a + j)) n i x) c
  unfolding shift_pixel_into_line
  dots_shifted a zero i x c f l t = record { still = t; value = refl }
  dots_shifted a (suc n) i x c f l t =
      let at : 0xA0000 + a + i ≡ 0xA0000 + (a + i) = omega arith in
      let got = get_flat rest (a + i) c f (omega arith) t in
      let g = get (0xA0000 + a + i) in
      let c1 = (run card_meaning g c).0 in
      let v = (run card_meaning g c).1 in
      let t1 : IsFlat rest c1 f = subst (λ b. IsFlat rest (run card_meaning (get b) c).0 f) (sym at) got.still in
      let value : v ≡ f (a + i) = ap (λ b. (run card_meaning (get b) c).1) at ∙ got.value in
      let y = (2 * x + as_dot v) % 256 in
      let more = dots_shifted a n (i + 1) y c1 f (omega arith) t1 in
      let runs = run_bind card_meaning (one a i x) (λ k. fold (one a) n (i + 1) k) c in
      record {
        still = subst (λ r. IsFlat rest r.0 f) (sym runs) more.still;
        value = ap (λ r. r.1) runs ∙ more.value ∙ ap (λ k. shifted (λ j. f (a + j)) n (i + 1) ((2 * x + as_dot k) % 256)) value;
      }

  line_seen : (a : ℕ) (c : CardState) (f : ℕ → ℕ) → a + 8 < 65536 → IsFlat rest c f →
      IsSeen (λ y. IsFlat rest y f) (read_nonzero_pixels_plan Packed (0xA0000 + a)) (byte_of_bits (λ j. as_dot (f (a + (7 - j))))) c
  unfolding read_nonzero_pixels_plan read_nonzero_pixels_in_256_colours
  line_seen a c f l t =
      let seen = dots_shifted a 8 0 0 c f (omega arith) t in
      record { still = seen.still; value = seen.value ∙ byte_shifted (λ j. f (a + j)) }

module _ (c : CardState) (d : BiosData) (t : IsPacked c d) (z : IsCard c) where
  abbrev s : Screen
  s = pixel_screen bytes_320_by_200 c d

  abbrev place : ℕ → ℕ → ℕ
  place q r = 8 * strip_at d.columns d.height q r

  abbrev old : ℕ → ℕ
  old = pixel_of_256_colours c.host.memory

  line_is : (q r : ℕ) → q < cells_per_page d → r < d.height → byte_of_bits (λ j. as_dot (old (place q r + (7 - j)))) ≡ pixel_line_as_byte s 0 q r
  line_is q r lq lr =
      let l = writes.strip_small c d t z q r lq lr in
      let all = screens.all_pixels c d t z in
      byte_same (λ j. as_dot (old (place q r + (7 - j)))) (λ j. as_dot (pixel_of s 0 (place q r + (7 - j)))) (λ j lj.
      ap as_dot (sym (screens.pixel_is c d t z (place q r + (7 - j)) (omega arith))))

  pub cell_read : (fonts : FontSet) (r : Regs) (p : ℕ) → p < bytes_320_by_200.pages → cursor_cell_number d p < cells_per_page d → IsCellRead fonts r c d p s
  cell_read fonts r p lp lq =
      let first : p ≡ 0 = omega arith in
      let q = cursor_cell_number d 0 in
      let l : q < cells_per_page d = subst (λ i. cursor_cell_number d i < cells_per_page d) first lq in
      let rest = without_host c in
      let sum : (n : ℕ) → 0xA0000 + (n + 0) ≡ 0xA0000 + n = λ n. omega arith in
      subst (λ i. IsCellRead fonts r c d i s) (sym first)
      (reads.cell_read bytes_320_by_200 c d fonts r 0 t.text
      (reads.character_seen bytes_320_by_200 c d fonts 0 q Packed (λ r. 0xA0000 + place q r) (λ y. IsFlat rest y old)
      (λ r y lr u. let seen = line_seen rest (place q r) y old (let k = writes.strip_small c d t z q r l lr in omega arith) u in
      record { still = seen.still; value = seen.value ∙ line_is q r l lr })
      (ap kind_of t.number) refl (λ r. writes.address_is c d t z q r 0 ∙ sum (place q r))
      (screens.begins c d t z) (λ y u. screens.stays c d t z y u)))
