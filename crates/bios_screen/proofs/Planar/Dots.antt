-- Writing a pixel of sixteen colours, directly or by XOR.
use Rattle.std.proofs.Common.{◌≡◌, ◌≢◌, ℕ, ◌+◌, ◌*◌, ◌/◌, ◌%◌, ◌^◌, ◌<◌, ◌≤◌, ⊎_elim, refl, sym, ap, ◌∙◌, subst, arith, Some, Bool, true, false}
use Rattle.std.specs.Prelude.{slice_index, bit_and, ◌==◌, if◌then◌else◌}
use Rattle.std.proofs.lemmas.Bool.{cases_eq, agree_below_at}
use Rattle.std.proofs.lemmas.Bool.Decides.{nat_tests}
use Rattle.bios_screen.proofs.Prelude.{is_set, Four, bytes_at, IsCard, card_meaning, CardState, ModeRow, BiosData, write_graphics, Plan, run, put, get, Done, ◌>>=◌}
use Rattle.bios_screen.proofs.Prelude.{◌>>◌, Screen, page_pixels, pixel_screen, shown, pixel_of, with_pixels}
use Rattle.bios_services.specs.Pixels.{pixel_address, write_planar_pixel_plan, write_pixel_plan}
use Rattle.bios_screen.specs.Step.{pixel_number, colour_over, change_pixel}
use Rattle.bios_screen.proofs.Base.Flat.{set_cell, set_same, set_other}
use Rattle.bios_screen.proofs.Base.Plans.{then_runs}
use Rattle.bios_screen.proofs.Dots.PlanarDots.{IsPlanar}
use Rattle.bios_screen.proofs.Planar.Settings.{Hand, at_rest, drawing, stored, without_host, Loaded, put_draws, get_loads, function_set, mode_set, bits_set}
use Rattle.bios_screen.proofs.Planar.Bits.{nibble_of, dot_hand, dot_over, pixel_dotted}
use Rattle.bios_screen.proofs.Planar.Screens as screens
use Rattle.bios_screen.proofs.Planar.Reads as reads
use Rattle.bios_screen.proofs.Pixels.NewPixels.{There, number_within}

mask_kept : (k : ℕ) → k < 8 → bit_and (0x80 / 2 ^ k) 0xFF ≡ 0x80 / 2 ^ k
mask_kept k l = let t = agree_below_at (λ k. bit_and (0x80 / 2 ^ k) 0xFF == 0x80 / 2 ^ k) (λ _. true) 8 k refl l in grind (arith, nat_tests)

-- function and rotate is written only if bit 7 of the colour asks for XOR, before and after
abbrev turn_plan : Bool → ℕ → Plan (Unit {0})
turn_plan b v = if b then write_graphics 3 v else Done tt

turn_begun : (rest : CardState) (e d : ℕ) (h : Hand) (q : Four ℕ) (c : CardState) (f : ℕ → Four ℕ) (b : Bool) →
    Loaded rest e d (record h { turn = 0x00 }) c f q →
    Loaded rest e d (record h { turn = if b then 0x18 else 0x00 }) (run card_meaning (turn_plan b 0x18) c).0 f q
turn_begun rest e d h q c f true t = function_set rest e d 0x18 (record h { turn = 0x00 }) q c f refl t
turn_begun rest e d h q c f false t = t

turn_ended : (rest : CardState) (e d : ℕ) (h : Hand) (q : Four ℕ) (c : CardState) (f : ℕ → Four ℕ) (b : Bool) →
    Loaded rest e d (record h { turn = if b then 0x18 else 0x00 }) c f q →
    Loaded rest e d (record h { turn = 0x00 }) (run card_meaning (turn_plan b 0x00) c).0 f q
turn_ended rest e d h q c f true t = function_set rest e d 0x00 (record h { turn = 0x18 }) q c f refl t
turn_ended rest e d h q c f false t = t

-- the plan, if bit 7 of the colour is known
abbrev dot_plan : Bool → ℕ → ℕ → ℕ → Plan (Unit {0})
dot_plan b address k v = do
  write_graphics 8 (0x80 / 2 ^ k)
  turn_plan b 0x18
  get address
  write_graphics 5 0x02
  put address v
  write_graphics 5 0x00
  turn_plan b 0x00
  write_graphics 8 0xFF

-- the four bytes at offset a are new, and only their pixel k has changed
record IsDotted (rest : CardState) (e d a k : ℕ) (change : ℕ → ℕ) (y : CardState) (f : ℕ → Four ℕ) : Type 0 where
  new : Four ℕ
  still : Loaded rest e d at_rest y (set_cell f a new) (f a)
  pixel : (i : ℕ) → i < 8 → nibble_of new i ≡ (if i == k then change (nibble_of (f a) i) else nibble_of (f a) i)

dot_drawn : (rest : CardState) (e d a k v : ℕ) (b : Bool) (q : Four ℕ) (c : CardState) (f : ℕ → Four ℕ) → is_set e 1 ≡ true → a < 65536 →
    k < 8 → Loaded rest e d at_rest c f q → IsDotted rest e d a k (dot_over b v) (run card_meaning (dot_plan b (0xA0000 + a) k v) c).0 f
dot_drawn rest e d a k v b q c f on la lk t =
    let bits = 0x80 / 2 ^ k in
    let h0 : Hand = record at_rest { bits = bits } in
    let h1 : Hand = record h0 { turn = if b then 0x18 else 0x00 } in
    let begin : Plan (Unit {0}) = turn_plan b 0x18 in
    let end : Plan (Unit {0}) = turn_plan b 0x00 in
    let c0 = (run card_meaning (write_graphics 8 bits) c).0 in
    let t0 = bits_set rest e d bits at_rest q c f (mask_kept k lk) t in
    let c1 = (run card_meaning begin c0).0 in
    let t1 = turn_begun rest e d h0 q c0 f b t0 in
    let c2 = (run card_meaning (get (0xA0000 + a)) c1).0 in
    let t2 = get_loads rest e d a h1 q c1 f on t1 la in
    let c3 = (run card_meaning (write_graphics 5 0x02) c2).0 in
    let t3 = mode_set rest e d 0x02 h1 (f a) c2 f refl refl t2 in
    let c4 = (run card_meaning (put (0xA0000 + a) v) c3).0 in
    let new = stored (drawing e d (dot_hand b k)) 0x0F v (f a) (f a) in
    let t4 = put_draws rest e d a v (dot_hand b k) (f a) c3 f on t3 la in
    let c5 = (run card_meaning (write_graphics 5 0x00) c4).0 in
    let t5 = mode_set rest e d 0x00 (dot_hand b k) (f a) c4 (set_cell f a new) refl refl t4 in
    let c6 = (run card_meaning end c5).0 in
    let t6 = turn_ended rest e d h0 (f a) c5 (set_cell f a new) b t5 in
    let last : Plan (Unit {0}) = write_graphics 8 0xFF in
    let runs = then_runs begin (get (0xA0000 + a) >>= λ _. write_graphics 5 0x02 >> (put (0xA0000 + a) v >> (write_graphics 5 0x00 >> (end >> last)))) c0
    ∙ then_runs end last c5 in
    record {
      new = new;
      still = subst (λ y. Loaded rest e d at_rest y (set_cell f a new) (f a)) (sym runs) (bits_set rest e d 0xFF h0 (f a) c6 (set_cell f a new) refl t6);
      pixel = λ i li. pixel_dotted b e d k v i (f a) lk li;
    }

plan_is : (address x v : ℕ) → write_planar_pixel_plan address x v ≡ dot_plan (is_set v 7) address (x % 8) v
unfolding write_planar_pixel_plan
plan_is address x v = refl

-- two pixels of the same byte are equal exactly if their positions in it are
one_test : (k n : ℕ) → k / 8 ≡ n / 8 → (k % 8 == n % 8) ≡ (k == n)
one_test k n e = grind (arith, nat_tests)

no_test : (k n : ℕ) → k / 8 ≢ n / 8 → (k == n) ≡ false
no_test k n w = grind (arith, nat_tests)

module _ (row : ModeRow) (c : CardState) (d : BiosData) (t : IsPlanar row c d) (z : IsCard c) where
  abbrev s : Screen
  s = pixel_screen row c d

  abbrev old : ℕ → Four ℕ
  old = bytes_at c.host.memory

  -- if one pixel of a byte has changed, the screen with that change is shown
  dot_shown : (p n v : ℕ) (b : Bool) (y : CardState) → p < row.pages → n < page_pixels d →
      IsDotted (without_host c) row.misc (slice_index row.sequencer 1) (d.size * p + n / 8) (n % 8) (dot_over b v) y old →
      shown y d ≡ Some (with_pixels s p (change_pixel n (dot_over b v)))
  dot_shown p n v b y lp ln h =
      let a = d.size * p + n / 8 in
      let f = set_cell old a h.new in
      let room = screens.room row c d t z n ln in
      screens.page_redrawn row c d t z p y f (old a) (change_pixel n (dot_over b v)) lp h.still
      (λ k lk.
      let was = screens.pixel_is row c d t z p k lp lk in
      ⊎_elim
      (λ (w : k / 8 ≡ n / 8).
      let at : d.size * p + k / 8 ≡ a = ap (λ i. d.size * p + i) w in
      ap (λ (x : Four ℕ). nibble_of x (k % 8)) (set_same old a h.new (d.size * p + k / 8) at)
      ∙ h.pixel (k % 8) (omega arith)
      ∙ ap (λ i. if i then dot_over b v (nibble_of (old a) (k % 8)) else nibble_of (old a) (k % 8)) (one_test k n w)
      ∙ ap (λ i. if k == n then dot_over b v i else i) (ap (λ i. nibble_of (old i) (k % 8)) (sym at) ∙ sym was))
      (λ (w : k / 8 ≢ n / 8).
      ap (λ (x : Four ℕ). nibble_of x (k % 8)) (set_other old a h.new (d.size * p + k / 8) (λ u. w (omega arith)))
      ∙ sym was
      ∙ sym (ap (λ i. if i then dot_over b v (pixel_of s p k) else pixel_of s p k) (no_test k n w)))
      (cases_eq (k / 8) (n / 8)))
      (λ o out. set_other old a h.new o (λ u. ⊎_elim (λ (w : o < d.size * p). absurd (omega arith)) (λ (w : d.size * p + d.size ≤ o). absurd (omega arith))
      out))

  write_is : (p x y v : ℕ) → write_pixel_plan d p x y v ≡ dot_plan (is_set v 7) (0xA0000 + (d.size * p + pixel_number s x y / 8)) (x % 8) v
  unfolding write_pixel_plan
  write_is p x y v =
      ap (λ b. let q : Plan (Unit {0}) = (if b then put (pixel_address d p x y) v else write_planar_pixel_plan (pixel_address d p x y) x v) in q) t.packed
      ∙ ap (λ a. write_planar_pixel_plan a x v) (reads.address_is row c d t z p x y)
      ∙ plan_is (0xA0000 + (d.size * p + pixel_number s x y / 8)) x v

  -- drawing the colour changes a pixel as it does on the screen
  colouring_is : (v : ℕ) → dot_over (is_set v 7) v ≡ colour_over d.mode v
  colouring_is v = sym (ap (λ i o. let x : ℕ = if i then v else dot_over (is_set v 7) v o in x) t.packed)

  pub pixel_written : (p x y v : ℕ) → p < row.pages → There d x y → shown (run card_meaning (write_pixel_plan d p x y v) c).0 d
      ≡ Some (with_pixels s p (change_pixel (pixel_number s x y) (colour_over d.mode v)))
  pixel_written p x y v lp h =
      let n = pixel_number s x y in
      let misc = row.misc in
      let clocking = slice_index row.sequencer 1 in
      let plan = dot_plan (is_set v 7) (0xA0000 + (d.size * p + n / 8)) (x % 8) v in
      let drawn = dot_drawn (without_host c) misc clocking (d.size * p + n / 8) (x % 8) v (is_set v 7) c.host.latches c old t.enabled
      (reads.offset_small row c d t z p x y lp h) (omega arith) (screens.begins row c d t z) in
      ap (λ i. shown (run card_meaning i c).0 d) (write_is p x y v)
      ∙ dot_shown p n v (is_set v 7) (run card_meaning plan c).0 lp (number_within d x y h)
      (subst (λ k. IsDotted (without_host c) misc clocking (d.size * p + n / 8) k (dot_over (is_set v 7) v) (run card_meaning plan c).0 old)
      (reads.rest_of_8 d.columns y x) drawn)
      ∙ ap (λ i. Some (with_pixels s p (change_pixel n i))) (colouring_is v)
