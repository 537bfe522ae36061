-- From drawn memory of sixteen colours to the screen that it shows, when one page has changed.
use Rattle.std.proofs.Common.{◌≡◌, ◌≢◌, ℕ, ◌+◌, ◌*◌, ◌/◌, ◌%◌, ◌<◌, ◌≤◌, ◌⊎◌, inl, inr, ⊎_elim, refl, sym, ap, ◌∙◌, subst, arith, List, Some}
use Rattle.std.specs.Prelude.{slice_index, if◌then◌else◌}
use Rattle.std.proofs.lemmas.Bool.{cases_lt}
use Rattle.bios_screen.proofs.Prelude.{Four, bytes_at, IsCard, CardState, ModeRow, BiosData, Screen, pixel_of_256_colours, planar_pixel, pixel_in, page_pixels}
use Rattle.bios_screen.proofs.Prelude.{pixel_screen, shown, pixel_of, with_pixels}
use Rattle.bios_screen.proofs.Base.Places.{ends_before}
use Rattle.bios_screen.proofs.Base.Setting.{setting}
use Rattle.bios_screen.proofs.Pixels.NewPixels.{page_renewed, pixels_stay}
use Rattle.bios_screen.proofs.Shows.Screens.{setting_by}
use Rattle.bios_screen.proofs.Dots.PixelDots.{pixel_at}
use Rattle.bios_screen.proofs.Dots.PlanarDots.{IsPlanar}
use Rattle.bios_screen.proofs.Modes.PixelModes.{pixels_of, page_ends, page_room}
use Rattle.bios_screen.proofs.Planar.Settings.{at_rest, drawing, without_host, Loaded}
use Rattle.bios_screen.proofs.Planar.Bits.{nibble_of}

module _ (row : ModeRow) (c : CardState) (d : BiosData) (t : IsPlanar row c d) (z : IsCard c) where
  abbrev s : Screen
  s = pixel_screen row c d

  abbrev misc : ℕ
  misc = row.misc

  abbrev clocking : ℕ
  clocking = slice_index row.sequencer 1

  pub setting_is : setting c ≡ drawing misc clocking at_rest
  setting_is = setting_by row c t.tests.memory ∙ t.setting

  -- before drawing, memory is cells of four bytes, and the registers are at rest
  pub begins : Loaded (without_host c) misc clocking at_rest c (bytes_at c.host.memory) c.host.latches
  begins = record { mode = setting_is; bounds = z; cell = λ o. refl; others = refl; latch = refl }

  pub all_pixels : page_pixels d ≡ pixels_of row
  all_pixels = ap (λ i. 8 * i * (d.height * (d.last_row + 1))) t.has.columns ∙ ap (λ i. 8 * row.columns * (i * (d.last_row + 1))) t.has.height
      ∙ ap (λ i. 8 * row.columns * (row.height * (i + 1))) t.has.last_row

  pub room : (k : ℕ) → k < page_pixels d → k / 8 < d.size
  room k l = subst (λ i. k / 8 < i) (sym t.has.size) (page_room row t.room k (subst (λ i. k < i) all_pixels l))

  -- the byte of a pixel lies in memory
  pub in_memory : (p k : ℕ) → p < row.pages → k < page_pixels d → d.size * p + k / 8 < 65536
  in_memory p k lp l = subst (λ i. i * p + k / 8 < 65536) (sym t.has.size)
      (let a = page_ends row t.room p lp in let b = page_room row t.room k (subst (λ i. k < i) all_pixels l) in omega arith)

  -- a strip lies within its page: its first pixel is one of the page, and so is its byte
  pub strip_small : (b : ℕ) → b < d.columns * (d.height * (d.last_row + 1)) → (8 * b < page_pixels d) × (b < d.size)
  strip_small b l =
      let same : 8 * d.columns * (d.height * (d.last_row + 1)) ≡ 8 * (d.columns * (d.height * (d.last_row + 1))) = omega arith in
      let inside : 8 * b < page_pixels d = omega arith in
      let k : 8 * b / 8 ≡ b = omega arith in
      (inside, subst (λ x. x < d.size) k (room (8 * b) inside))

  -- pixel k of page p, from its byte in each plane
  pixel_by : (f : Four (List ℕ)) (p k : ℕ) → pixel_in d.mode f (d.size * p) k ≡ nibble_of (bytes_at f (d.size * p + k / 8)) (k % 8)
  pixel_by f p k = ap (λ b. if b then pixel_of_256_colours f (d.size * p + k) else planar_pixel f (d.size * p) k) t.packed

  pub pixel_is : (p k : ℕ) → p < row.pages → k < page_pixels d → pixel_of s p k ≡ nibble_of (bytes_at c.host.memory (d.size * p + k / 8)) (k % 8)
  pixel_is p k lp l = pixel_at d.mode c.host.memory d.size (page_pixels d) row.pages p k lp l ∙ pixel_by c.host.memory p k

  -- the bytes of other pages lie before this page or after it
  apart : (p q k : ℕ) → p ≢ q → k < d.size → (d.size * q + k < d.size * p) ⊎ (d.size * p + d.size ≤ d.size * q + k)
  apart p q k n l = ⊎_elim
      (λ (a : p < q). let w = ends_before d.size p q a in inr (omega arith))
      (λ (a : q ≤ p). ⊎_elim
      (λ (b : q < p). let w = ends_before d.size q p b in inl (omega arith))
      (λ (b : p ≤ q). absurd (n (omega arith)))
      (cases_lt q p))
      (cases_lt p q)

  -- with the registers at rest again, the screen whose page has the new pixels is shown
  pub page_redrawn : (p : ℕ) (y : CardState) (f : ℕ → Four ℕ) (q : Four ℕ) (change : (ℕ → ℕ) → ℕ → ℕ) → p < row.pages →
      Loaded (without_host c) misc clocking at_rest y f q
      → ((k : ℕ) → k < page_pixels d → nibble_of (f (d.size * p + k / 8)) (k % 8) ≡ change (pixel_of s p) k)
      → ((o : ℕ) → (o < d.size * p) ⊎ (d.size * p + d.size ≤ o) → f o ≡ bytes_at c.host.memory o)
      → shown y d ≡ Some (with_pixels s p change)
  page_redrawn p y f q change lp h inside outside =
      page_renewed row c y d (t.there d.height) t.text t.tests (h.mode ∙ sym setting_is) h.others p change lp
      (λ k l. pixel_by y.host.memory p k ∙ ap (λ (x : Four ℕ). nibble_of x (k % 8)) (h.cell (d.size * p + k / 8)) ∙ inside k l)
      (λ g k _ w l. pixel_by y.host.memory g k ∙ ap (λ (x : Four ℕ). nibble_of x (k % 8)) (h.cell (d.size * g + k / 8)
      ∙ outside (d.size * g + k / 8) (apart p g (k / 8) (λ v. w (sym v)) (room k l))) ∙ sym (pixel_by c.host.memory g k))

  -- if all bytes are as they were, the same screen is shown
  pub stays : (y : CardState) (f : ℕ → Four ℕ) (q : Four ℕ) → Loaded (without_host c) misc clocking at_rest y f q →
      ((o : ℕ) → f o ≡ bytes_at c.host.memory o) → shown y d ≡ Some s
  stays y f q h same = pixels_stay row c y d (t.there d.height) t.text t.tests (h.mode ∙ sym setting_is) h.others (λ g k _ _.
      pixel_by y.host.memory g k ∙ ap (λ (x : Four ℕ). nibble_of x (k % 8)) (h.cell (d.size * g + k / 8) ∙ same (d.size * g + k / 8))
      ∙ sym (pixel_by c.host.memory g k))
