-- Scrolling a window in sixteen colours, from one screen to the next.
use Rattle.std.proofs.Common.{◌≡◌, ℕ, ◌+◌, ◌-◌, ◌*◌, ◌/◌, ◌%◌, ◌<◌, ◌≤◌, ◌⊎◌, ⊎_elim, refl, sym, ap, ◌∙◌, subst, arith, Some, Bool, true, false}
use Rattle.std.specs.Prelude.{slice_index, ◌==◌, if◌then◌else◌}
use Rattle.bios_screen.proofs.Prelude.{Four, bytes_at, IsCard, card_meaning, CardState, ModeRow, BiosData, ColumnBand, Planar, Direction, Up, Down, Window, run}
use Rattle.bios_screen.proofs.Prelude.{Screen, page_pixels, pixel_screen, shown, pixel_of}
use Rattle.vga_bits.proofs.BitLemmas.{ones_byte}
use Rattle.bios_services.specs.Bands.{band_of, scroll_rows, band_of_kind}
use Rattle.bios_services.specs.Cells.{page_address}
use Rattle.bios_services.specs.Scroll.{IsOnPage, scroll_window_plan}
use Rattle.bios_screen.specs.Step.{character_row_of_pixel, character_column_of_pixel, is_in_window, has_source_row, source_number, pixel_distance_of_rows, fill_pixel, scroll_pixels, scroll_window}
use Rattle.bios_screen.proofs.Base.Tests.{le_is}
use Rattle.bios_screen.proofs.Base.Windows.{inside_of, by_both_tests}
use Rattle.bios_screen.proofs.Base.Bands.{IsWindow}
use Rattle.bios_screen.proofs.Base.Shifts as shifts
use Rattle.bios_screen.proofs.Modes.PixelModes.{page_ends}
use Rattle.bios_screen.proofs.Dots.PlanarDots.{IsPlanar}
use Rattle.bios_screen.proofs.Base.CellPlaces.{line_by_8, column_by_8, within_rows, rows_above}
use Rattle.bios_screen.proofs.Planar.Settings.{without_host}
use Rattle.bios_screen.proofs.Planar.Bits.{nibble_of}
use Rattle.bios_screen.proofs.Planar.Characters.{lined, dotted_by, pixel_lined}
use Rattle.bios_screen.proofs.Planar.Screens as screens
use Rattle.bios_screen.proofs.Planar.Windows as windows
use Rattle.bios_screen.proofs.Planar.Writes as writes

module _ (row : ModeRow) (c : CardState) (d : BiosData) (t : IsPlanar row c d) (z : IsCard c)
    (p : ℕ) (lp : p < row.pages) (w : Window) (on : IsOnPage (d.last_row + 1) d.columns w) (direction : Direction) (n colour : ℕ) where
  abbrev s : Screen
  s = pixel_screen row c d

  abbrev W : ℕ
  W = d.columns

  abbrev H : ℕ
  H = d.height

  abbrev start : ℕ
  start = d.size * p

  abbrev rows : ℕ
  rows = d.last_row + 1

  abbrev band_with : (ℕ → ℕ) → ColumnBand
  band_with f = record { kind = Planar; start = page_address d p; pitch = f W; lines = H; left = f w.left; width = f w.width }

  abbrev band : ColumnBand
  band = band_with (λ x. x)

  band_is : band_of d p w.left w.width ≡ band
  band_is =
      let once : (x : ℕ) → 1 * x ≡ x = λ x. omega arith in
      ap (λ k. band_of_kind k d p w.left w.width) t.kind ∙ ap band_with (λ j x. once x j)

  abbrev window : IsWindow 0xA0000 65536 band start rows w
  window = record {
    address = ap (λ x. x + d.size * p) t.base;
    memory =
        let a : d.size * p ≡ row.size * p = ap (λ x. x * p) t.has.size in
        let b : W * (H * rows) ≡ row.columns * (row.height * (row.last_row + 1)) = ap (λ i. i * (H * rows)) t.has.columns
        ∙ ap (λ i. row.columns * (i * rows)) t.has.height ∙ ap (λ i. row.columns * (row.height * (i + 1))) t.has.last_row in
        let f = page_ends row t.room p lp in
        let g = t.room.bytes in
        omega arith;
    below = on.below;
    after = on.after;
    left = omega arith;
    width = omega arith;
    wide = writes.wide row c d t z;
    high = writes.high row c d t z;
  }

  abbrev old : ℕ → Four ℕ
  old = bytes_at c.host.memory

  abbrev IsScrolled : (ℕ → Four ℕ) → Type 0
  IsScrolled g = shifts.IsScrolled (Four ℕ) 0xA0000 65536 band start rows w window direction n (λ _. lined false (colour % 16) 0xFF) old g

  -- ---- the pixels of a strip

  strip_row : (k : ℕ) → character_row_of_pixel s k ≡ k / 8 / W / H
  strip_row k = ap (λ x. x / H) (line_by_8 W k window.wide)

  strip_test : (k : ℕ) → is_in_window w (k / 8 / W / H) (k / 8 % W / 1) ≡ is_in_window w (character_row_of_pixel s k) (character_column_of_pixel s k)
  strip_test k =
      let one : k / 8 % W / 1 ≡ k / 8 % W = omega arith in
      ap (is_in_window w (k / 8 / W / H)) (one ∙ sym (column_by_8 W k window.wide)) ∙ ap (λ r. is_in_window w r (character_column_of_pixel s k)) (sym (strip_row k))

  -- a byte outside the page is no strip of the window
  no_other : (o : ℕ) → (o < d.size * p) ⊎ (d.size * p + d.size ≤ o) → (b : ℕ) → start + b ≡ o → is_in_window w (b / W / H) (b % W / 1) ≡ false
  no_other o out b q = by_test (is_in_window w (b / W / H) (b % W / 1)) refl
    where
      by_test : (u : Bool) → is_in_window w (b / W / H) (b % W / 1) ≡ u → u ≡ false
      by_test false u = refl
      by_test true u =
          let l = (inside_of w (b / W / H) (b % W / 1) u).below in
          let f = on.below in
          let g = (screens.strip_small row c d t z b (within_rows W H rows b window.wide window.high (omega arith))).1 in
          ⊎_elim (λ (a : o < d.size * p). absurd (omega arith)) (λ (a : d.size * p + d.size ≤ o). absurd (omega arith)) out

  -- the strip of the pixel whose value pixel k gets, and the position in it
  record IsTaken (way : Direction) (k : ℕ) : Type 0 where
    strip : source_number way k (pixel_distance_of_rows s n) / 8 ≡ source_number way (k / 8) (W * (H * n))
    dot : source_number way k (pixel_distance_of_rows s n) % 8 ≡ k % 8

  source_of_dot : (way : Direction) (k : ℕ) → has_source_row way w n (k / 8 / W / H) ≡ true → IsTaken way k
  source_of_dot Up k u = let whole : 8 * W * (H * n) ≡ 8 * (W * (H * n)) = omega arith in record { strip = omega arith; dot = omega arith }
  source_of_dot Down k u =
      let l = le_is (w.top + n) (k / 8 / W / H) u in
      let low = rows_above W H (k / 8) n window.wide window.high (omega arith) in
      let whole : 8 * W * (H * n) ≡ 8 * (W * (H * n)) = omega arith in
      record { strip = omega arith; dot = omega arith }

  -- a pixel of a new row has the fill colour
  filled : (j b : ℕ) (x : Four ℕ) → j < 8 → shifts.IsFilled (Four ℕ) 0xA0000 65536 band start rows w window (λ _. lined false (colour % 16) 0xFF) b x →
      nibble_of x j ≡ fill_pixel d.mode colour
  filled j b x lj is =
      let mask = colour % 16 in
      ap (λ (v : Four ℕ). nibble_of v j) is.is
      ∙ pixel_lined false mask 0xFF j is.under (omega arith) lj
      ∙ ap (λ v. dotted_by false mask (v == 1) (nibble_of is.under j)) (ones_byte (7 - j) (omega arith))
      ∙ sym (ap (λ b. let v : ℕ = (if b then colour else mask) in v) t.packed)

  pixels_scrolled : (f : ℕ → Four ℕ) → IsScrolled f → (k : ℕ) → k < page_pixels d →
      nibble_of (f (d.size * p + k / 8)) (k % 8) ≡ scroll_pixels s w direction n colour (pixel_of s p) k
  pixels_scrolled f is k lk =
      let line = character_row_of_pixel s k in
      let column = character_column_of_pixel s k in
      let j = k % 8 in
      let far = source_number direction k (pixel_distance_of_rows s n) in
      let tested = ap (has_source_row direction w n) (sym (strip_row k)) in
      by_both_tests (is_in_window w line column) (has_source_row direction w n line) (nibble_of (f (start + k / 8)) j) (pixel_of s p far) (fill_pixel d.mode colour)
      (pixel_of s p k)
      (λ u v.
      let same = tested ∙ v in
      let x = source_of_dot direction k same in
      let whole : 8 * W * (H * rows) ≡ 8 * (W * (H * rows)) = omega arith in
      let within = shifts.source_within (Four ℕ) 0xA0000 65536 band start rows w window direction (k / 8) n (strip_test k ∙ u) same in
      let a = x.strip in
      let less : far < page_pixels d = omega arith in
      ap (λ (y : Four ℕ). nibble_of y j) (is.moved (k / 8) (strip_test k ∙ u) same)
      ∙ sym (screens.pixel_is row c d t z p far lp less ∙ ap (λ y. nibble_of (old (start + y)) (far % 8)) x.strip
      ∙ ap (nibble_of (old (start + source_number direction (k / 8) (W * (H * n))))) x.dot))
      (λ u v. filled j (k / 8) (f (start + k / 8)) (omega arith) (is.filled (k / 8) (strip_test k ∙ u) (tested ∙ v)))
      (λ u.
      ap (λ (y : Four ℕ). nibble_of y j) (is.outside (start + k / 8) (λ b q. let same : k / 8 ≡ b = omega arith in
      subst (λ i. is_in_window w (i / W / H) (i % W / 1) ≡ false) same (strip_test k ∙ u)))
      ∙ sym (screens.pixel_is row c d t z p k lp lk))

  pub window_shown : 0 < n → n ≤ w.height → shown (run card_meaning (scroll_window_plan d p w direction n colour) c).0 d
      ≡ Some (scroll_window s p w direction n colour)
  window_shown some few =
      let done = windows.scrolls (without_host c) row.misc (slice_index row.sequencer 1) t.enabled (page_address d p) W H w.left
      w.width start rows w window direction n colour c old some few (record { latches = c.host.latches; is = screens.begins row c d t z }) in
      ap (λ b. shown (run card_meaning (scroll_rows b direction w.top w.height n colour) c).0 d) band_is
      ∙ screens.page_redrawn row c d t z p (run card_meaning (scroll_rows band direction w.top w.height n colour) c).0 done.cells done.shown.latches
      (scroll_pixels s w direction n colour) lp done.shown.is (pixels_scrolled done.cells done.fact) (λ o out. done.fact.outside o (no_other o out))
