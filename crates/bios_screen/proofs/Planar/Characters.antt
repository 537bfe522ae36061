-- A character in sixteen colours, opaque or by XOR: what its lines leave in the four planes, and
-- what that does to the pixels.
use Rattle.std.proofs.Common.{◌≡◌, ◌≢◌, ℕ, zero, suc, ◌+◌, ◌-◌, ◌%◌, ◌<◌, refl, sym, ap, ◌∙◌, subst, arith, Bool, true, false}
use Rattle.std.specs.Prelude.{◌==◌, if◌then◌else◌, bit_xor}
use Rattle.std.specs.Int.{bit_at}
use Rattle.std.proofs.lemmas.Bool.Decides.{nat_tests}
use Rattle.std.proofs.lemmas.Nat.Bits.{bit_at-lt}
use Rattle.bios_screen.proofs.Prelude.{is_set, Four, card_meaning, CardState, write_graphics, Plan, run, put, get, each, ◌>>◌}
use Rattle.vga_bits.specs.Bits.{byte_of_bits}
use Rattle.vga_bits.specs.Four.{four_by_plane, of_plane}
use Rattle.vga_host.specs.Memory.Write.{written_bit, combined_bit}
use Rattle.bios_services.specs.Cycles.{write_sequencer}
use Rattle.bios_services.specs.Drawing.{put_over_latches}
use Rattle.bios_screen.proofs.Base.Flat.{Edited, Turn, Leaves, set_cell}
use Rattle.bios_screen.proofs.Base.Edits.{one_edit, edited_twice, edits}
use Rattle.bios_screen.proofs.Base.Plans.{run_bind}
use Rattle.bios_screen.proofs.Planar.Settings.{Hand, at_rest, drawing, stored, Loaded, put_draws, get_loads, mask_set, function_set}
use Rattle.bios_screen.proofs.Planar.Bits.{nibble, same_nibble, nibble_of, low_is, xor_nibble, bit_of}

-- ---- four bytes, one of each plane

-- a byte built from its bits, as a Put stores it
abbrev pub byte : ℕ → ℕ
byte v = byte_of_bits (bit_at v)

-- a byte is stored in the planes of a mask, and the other planes stay
abbrev pub put_in_planes : ℕ → ℕ → Four ℕ → Four ℕ
put_in_planes mask v old = four_by_plane (λ p. if is_set mask p then byte v else of_plane old p)

-- the XOR of two bytes, and of a byte with each plane of a mask
abbrev xor_byte : ℕ → ℕ → ℕ
xor_byte a b = byte_of_bits (λ i. (bit_at a i + bit_at b i) % 2)

abbrev pub turned : ℕ → ℕ → Four ℕ → Four ℕ
turned mask v old = four_by_plane (λ p. if is_set mask p then xor_byte v (of_plane old p) else of_plane old p)

-- the planes after a line of a glyph: by XOR, or opaque over zeros
abbrev pub lined : Bool → ℕ → ℕ → Four ℕ → Four ℕ
lined b mask v old = if b then turned mask v old else put_in_planes mask v (put_in_planes 0x0F 0x00 old)

-- a pixel after a line of a glyph
abbrev pub dotted_by : Bool → ℕ → Bool → ℕ → ℕ
dotted_by b mask is_dot old = if is_dot then (if b then bit_xor old mask else mask) else if b then old else 0

pixel_opaque : (mask v i : ℕ) (old : Four ℕ) → mask < 16 → nibble_of (put_in_planes mask v (put_in_planes 0x0F 0x00 old)) i ≡ (if is_set v (7 - i) then mask else 0)
pixel_opaque mask v i old l =
    same_nibble (λ p. bit_at (if is_set mask p then byte v else byte 0x00) (7 - i)) (λ p. if is_set mask p then bit_at v (7 - i) else 0)
    (λ p _. chosen (is_set mask p))
    ∙ at_bit (bit_at v (7 - i)) (bit_at-lt v (7 - i))
  where
    chosen : (t : Bool) → bit_at (if t then byte v else byte 0x00) (7 - i) ≡ (if t then bit_at v (7 - i) else 0)
    chosen true = bit_of (bit_at v) (bit_at-lt v) (7 - i) (omega arith)
    chosen false = bit_of (bit_at 0x00) (bit_at-lt 0x00) (7 - i) (omega arith) ∙ none (7 - i)
      where
        none : (j : ℕ) → bit_at 0x00 j ≡ 0
        none j = omega arith

    none : (t : Bool) → (let n : ℕ = if t then 0 else 0 in n) ≡ 0
    none true = refl
    none false = refl

    at_bit : (b : ℕ) → b < 2 → nibble (λ p. if is_set mask p then b else 0) ≡ (if b == 1 then mask else 0)
    at_bit zero h = same_nibble (λ p. if is_set mask p then 0 else 0) (λ _. 0) (λ p _. none (is_set mask p))
    at_bit (suc zero) h =
        let low : mask % 16 ≡ mask = omega arith in
        same_nibble (λ p. if is_set mask p then 1 else 0) (bit_at mask) (λ p _. let small = bit_at-lt mask p in grind (arith, nat_tests)) ∙ low_is mask ∙ low
    at_bit (suc (suc b)) h = absurd (omega arith)

pixel_turned : (mask v i : ℕ) (old : Four ℕ) → mask < 16 → nibble_of (turned mask v old) i
    ≡ (if is_set v (7 - i) then bit_xor (nibble_of old i) mask else nibble_of old i)
pixel_turned mask v i old l =
    same_nibble (λ p. bit_at (if is_set mask p then xor_byte v (of_plane old p) else of_plane old p) (7 - i))
    (λ p. if is_set mask p then (bit_at v (7 - i) + x p) % 2 else x p) (λ p _. chosen (is_set mask p) (of_plane old p))
    ∙ at_bit (bit_at v (7 - i)) (bit_at-lt v (7 - i))
  where
    x : ℕ → ℕ
    x p = bit_at (of_plane old p) (7 - i)

    xor_small : (y j : ℕ) → (bit_at v j + bit_at y j) % 2 < 2
    xor_small y j = omega arith

    chosen : (t : Bool) (y : ℕ) → bit_at (if t then xor_byte v y else y) (7 - i) ≡ (if t then (bit_at v (7 - i) + bit_at y (7 - i)) % 2 else bit_at y (7 - i))
    chosen true y = bit_of (λ j. (bit_at v j + bit_at y j) % 2) (xor_small y) (7 - i) (omega arith)
    chosen false y = refl

    stays : (t : Bool) (y : ℕ) → y < 2 → (if t then (0 + y) % 2 else y) ≡ y
    stays true y h = omega arith
    stays false y h = refl

    at_bit : (b : ℕ) → b < 2 → nibble (λ p. if is_set mask p then (b + x p) % 2 else x p) ≡ (if b == 1 then bit_xor (nibble x) mask else nibble x)
    at_bit zero h = same_nibble (λ p. if is_set mask p then (0 + x p) % 2 else x p) x (λ p _. stays (is_set mask p) (x p) (bit_at-lt (of_plane old p) (7 - i)))
    at_bit (suc zero) h =
        let low : mask % 16 ≡ mask = omega arith in
        same_nibble (λ p. if is_set mask p then (1 + x p) % 2 else x p) (λ p. (bit_at mask p + x p) % 2) (λ p _.
        let small = bit_at-lt mask p in
        let here = bit_at-lt (of_plane old p) (7 - i) in
        grind (arith, nat_tests))
        ∙ xor_nibble mask x (λ p. bit_at-lt (of_plane old p) (7 - i)) ∙ ap (bit_xor (nibble x)) low
    at_bit (suc (suc b)) h = absurd (omega arith)

-- pixel i of a line of a character
pub pixel_lined : (b : Bool) (mask v i : ℕ) (old : Four ℕ) → mask < 16 → i < 8 → nibble_of (lined b mask v old) i
    ≡ dotted_by b mask (is_set v (7 - i)) (nibble_of old i)
pixel_lined true mask v i old l li = pixel_turned mask v i old l
pixel_lined false mask v i old l li = pixel_opaque mask v i old l

-- ---- the plans, by the addresses of the lines

-- the adapter is in this setting with these cells, whatever the latches are
pub record Drawn (rest : CardState) (e d : ℕ) (h : Hand) (c : CardState) (f : ℕ → Four ℕ) : Type 0 where
  pub latches : Four ℕ
  pub is : Loaded rest e d h c f latches

abbrev opaque : ℕ → Hand
opaque mask = record { mask = mask; turn = 0x00; mode = 0x00; bits = 0xFF }

abbrev turning : ℕ → Hand
turning mask = record { mask = mask; turn = 0x18; mode = 0x00; bits = 0xFF }

abbrev pub lines_plan : (ℕ → ℕ) → (ℕ → ℕ) → ℕ → Plan (Unit {0})
lines_plan at g n = each (λ r. put (at r) (g r)) n 0

abbrev pub turns_plan : (ℕ → ℕ) → (ℕ → ℕ) → ℕ → Plan (Unit {0})
turns_plan at g n = each (λ r. put_over_latches (at r) (g r)) n 0

abbrev pub opaque_by : (ℕ → ℕ) → (ℕ → ℕ) → ℕ → ℕ → Plan (Unit {0})
opaque_by at g n mask = do
  lines_plan at (λ r. 0x00) n
  write_sequencer 2 mask
  lines_plan at g n
  write_sequencer 2 0x0F

abbrev pub turned_by : (ℕ → ℕ) → (ℕ → ℕ) → ℕ → ℕ → Plan (Unit {0})
turned_by at g n mask = do
  write_graphics 3 0x18
  write_sequencer 2 mask
  turns_plan at g n
  write_sequencer 2 0x0F
  write_graphics 3 0x00

abbrev pub glyph_by : Bool → (ℕ → ℕ) → (ℕ → ℕ) → ℕ → ℕ → Plan (Unit {0})
glyph_by b at g n mask = if b then turned_by at g n mask else opaque_by at g n mask

module _ (rest : CardState) (e d : ℕ) (on : is_set e 1 ≡ true) (at : ℕ → ℕ) (height : ℕ) (within : (r : ℕ) → r < height → at r < 65536)
    (apart : (j k : ℕ) → j < k → k < height → at j ≢ at k) where
  abbrev Line : Type 0
  Line = Turn (λ _. Unit {0}) 0 height

  -- what a Put stores in each of the settings
  stores_byte : (v mask : ℕ) (q old : Four ℕ) → stored (drawing e d (opaque mask)) mask v q old ≡ put_in_planes mask v old
  unfolding byte_of_bits written_bit combined_bit
  stores_byte v mask q old = refl

  by_xor : (mask v : ℕ) (q : Four ℕ) → stored (drawing e d (turning mask)) mask v q q ≡ turned mask v q
  unfolding byte_of_bits written_bit combined_bit
  by_xor mask v q = refl

  lines_put : (mask : ℕ) (g : ℕ → ℕ) (c : CardState) (f : ℕ → Four ℕ) → Drawn rest e d (opaque mask) c f →
      Leaves CardState (Four ℕ) (Drawn rest e d (opaque mask)) (run card_meaning (lines_plan (λ r. 0xA0000 + at r) g height) c).0
      (Edited (Four ℕ) Line (λ h. at h.turn) (λ h x. put_in_planes mask (g h.turn) x) f)
  lines_put mask g c f t =
      edits CardState (Four ℕ) card_meaning (λ r. put (0xA0000 + at r) (g r)) (λ _. Drawn rest e d (opaque mask)) 0 height (λ _. Unit {0}) (λ r _. at r)
      (λ r _ x. put_in_planes mask (g r) x)
      (λ j k _ _ lb lo hi. apart j k lo hi)
      (λ r s x lb l u.
      let new = stored (drawing e d (opaque mask)) mask (g r) u.latches (x (at r)) in
      let one = one_edit (at r) new x in
      record {
        cells = set_cell x (at r) new;
        shown = record { latches = u.latches; is = put_draws rest e d (at r) (g r) (opaque mask) u.latches s x on u.is (within r l) };
        fact = record { inside = λ h. one.inside h ∙ stores_byte (g r) mask u.latches (x (at r)); outside = one.outside };
      })
      height 0 c f (omega arith) (omega arith) t

  lines_turned : (mask : ℕ) (g : ℕ → ℕ) (c : CardState) (f : ℕ → Four ℕ) → Drawn rest e d (turning mask) c f →
      Leaves CardState (Four ℕ) (Drawn rest e d (turning mask)) (run card_meaning (turns_plan (λ r. 0xA0000 + at r) g height) c).0
      (Edited (Four ℕ) Line (λ h. at h.turn) (λ h x. turned mask (g h.turn) x) f)
  lines_turned mask g c f t =
      edits CardState (Four ℕ) card_meaning (λ r. put_over_latches (0xA0000 + at r) (g r)) (λ _. Drawn rest e d (turning mask)) 0 height (λ _. Unit {0}) (λ r _. at r)
      (λ r _ x. turned mask (g r) x)
      (λ j k _ _ lb lo hi. apart j k lo hi)
      (λ r s x lb l u.
      let a = at r in
      let s1 = (run card_meaning (get (0xA0000 + a)) s).0 in
      let t1 = get_loads rest e d a (turning mask) u.latches s x on u.is (within r l) in
      let new = stored (drawing e d (turning mask)) mask (g r) (x a) (x a) in
      let one = one_edit a new x in
      record {
        cells = set_cell x a new;
        shown = record { latches = x a; is = put_draws rest e d a (g r) (turning mask) (x a) s1 x on t1 (within r l) };
        fact = record { inside = λ h. one.inside h ∙ by_xor mask (g r) (x a); outside = one.outside };
      })
      height 0 c f (omega arith) (omega arith) t

  abbrev Lined : Bool → (ℕ → ℕ) → ℕ → (ℕ → Four ℕ) → (ℕ → Four ℕ) → Type 0
  Lined b g mask f = Edited (Four ℕ) Line (λ h. at h.turn) (λ h x. lined b mask (g h.turn) x) f

  -- a whole character; the registers are at rest before it and after it
  pub glyph_drawn : (b : Bool) (mask : ℕ) (g : ℕ → ℕ) (c : CardState) (f : ℕ → Four ℕ) → mask < 16 → Drawn rest e d at_rest c f →
      Leaves CardState (Four ℕ) (Drawn rest e d at_rest) (run card_meaning (glyph_by b (λ r. 0xA0000 + at r) g height mask) c).0 (Lined b g mask f)
  glyph_drawn false mask g c f lm t =
      let p1 = lines_plan (λ r. 0xA0000 + at r) (λ r. 0x00) height in
      let p3 = lines_plan (λ r. 0xA0000 + at r) g height in
      let p4 = write_sequencer 2 0x0F in
      let c1 = (run card_meaning p1 c).0 in
      let m1 = lines_put 0x0F (λ r. 0x00) c f t in
      let c2 = (run card_meaning (write_sequencer 2 mask) c1).0 in
      let m2 : Drawn rest e d (opaque mask) c2 m1.cells = record {
        latches = m1.shown.latches;
        is = mask_set rest e d mask (opaque 0x0F) m1.shown.latches c1 m1.cells lm m1.shown.is;
      } in
      let c3 = (run card_meaning p3 c2).0 in
      let m3 = lines_put mask g c2 m1.cells m2 in
      let all : Leaves CardState (Four ℕ) (Drawn rest e d at_rest) (run card_meaning p4 c3).0 (Lined false g mask f) = record {
        cells = m3.cells;
        shown = record { latches = m3.shown.latches; is = mask_set rest e d 0x0F (opaque mask) m3.shown.latches c3 m3.cells (omega arith) m3.shown.is };
        fact = edited_twice (λ (h : Line). at h.turn) (λ h x. put_in_planes 0x0F 0x00 x) (λ h x. put_in_planes mask (g h.turn) x) f m1.cells m3.cells m1.fact m3.fact;
      } in
      let e1 = run_bind card_meaning p1 (λ _. write_sequencer 2 mask >> (p3 >> p4)) c in
      let e2 = run_bind card_meaning p3 (λ _. p4) c2 in
      subst (λ r. Leaves CardState (Four ℕ) (Drawn rest e d at_rest) r.0 (Lined false g mask f)) (sym (e1 ∙ e2)) all
  glyph_drawn true mask g c f lm t =
      let h1 : Hand = record at_rest { turn = 0x18 } in
      let p3 = turns_plan (λ r. 0xA0000 + at r) g height in
      let c1 = (run card_meaning (write_graphics 3 0x18) c).0 in
      let t1 = function_set rest e d 0x18 at_rest t.latches c f refl t.is in
      let c2 = (run card_meaning (write_sequencer 2 mask) c1).0 in
      let t2 = mask_set rest e d mask h1 t.latches c1 f lm t1 in
      let m3 = lines_turned mask g c2 f (record { latches = t.latches; is = t2 }) in
      let c3 = (run card_meaning p3 c2).0 in
      let q = m3.shown.latches in
      let c4 = (run card_meaning (write_sequencer 2 0x0F) c3).0 in
      let t4 = mask_set rest e d 0x0F (turning mask) q c3 m3.cells (omega arith) m3.shown.is in
      let all : Leaves CardState (Four ℕ) (Drawn rest e d at_rest) (run card_meaning (write_graphics 3 0x00) c4).0 (Lined true g mask f) = record {
        cells = m3.cells;
        shown = record { latches = q; is = function_set rest e d 0x00 h1 q c4 m3.cells refl t4 };
        fact = m3.fact;
      } in
      let e1 = run_bind card_meaning p3 (λ _. write_sequencer 2 0x0F >> write_graphics 3 0x00) c2 in
      subst (λ r. Leaves CardState (Four ℕ) (Drawn rest e d at_rest) r.0 (Lined true g mask f)) (sym e1) all
