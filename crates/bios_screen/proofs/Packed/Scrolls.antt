-- Scrolling a window in 256 colours, from one screen to the next.
use Rattle.std.proofs.Common.{◌≡◌, ℕ, ◌+◌, ◌-◌, ◌*◌, ◌/◌, ◌%◌, ◌<◌, ◌≤◌, refl, sym, ap, ◌∙◌, subst, arith, Some, false}
use Rattle.bios_screen.proofs.Prelude.{IsCard, card_meaning, CardState, bytes_320_by_200, BiosData, ColumnBand, Direction, Window, page_0_address_of_mode, kind_of, run, Screen}
use Rattle.bios_screen.proofs.Prelude.{pixel_of_256_colours, page_pixels, pixel_screen, shown, pixel_of, with_pixels}
use Rattle.bios_modes.specs.declared.kind.Kind.TheVariants.{Packed}
use Rattle.bios_services.specs.Bands.{filling_byte, one_byte_filling, fill_plan, scroll_rows, band_of_kind}
use Rattle.bios_services.specs.Scroll.{IsOnPage, scroll_window_plan}
use Rattle.bios_screen.specs.Step.{character_row_of_pixel, character_column_of_pixel, is_in_window, has_source_row, source_number, pixel_distance_of_rows, fill_pixel, scroll_pixels}
use Rattle.bios_screen.specs.Step.{scroll_window}
use Rattle.bios_screen.proofs.Base.Flat.{Leaves}
use Rattle.bios_screen.proofs.Base.Windows.{by_both_tests}
use Rattle.bios_screen.proofs.Base.Bands.{IsWindow}
use Rattle.bios_screen.proofs.Base.Shifts as shifts
use Rattle.bios_screen.proofs.Dots.PackedDots.{IsPacked}
use Rattle.bios_screen.proofs.Planar.Settings.{without_host}
use Rattle.bios_screen.proofs.Planar.Windows.{filled_uniform}
use Rattle.bios_screen.proofs.Packed.Screens as screens
use Rattle.bios_screen.proofs.Packed.Screens.{IsFlat, put_flat, get_flat}

pixel_read : (rest : CardState) (i : ℕ) (c : CardState) (f : ℕ → ℕ) → i < 65536 → IsFlat rest c f →
    shifts.IsRead CardState card_meaning (IsFlat rest) (0xA0000 + i) c f (f i)
pixel_read rest i c f l t =
    let got = get_flat rest i c f l t in
    record { still = got.still; answer = got.value; small = subst (λ v. v < 256) (t.cell i) (t.bounds.host.memory.bytes (i % 4) (omega arith) (i / 4 * 4)) }

module _ (c : CardState) (d : BiosData) (t : IsPacked c d) (z : IsCard c) (p : ℕ)
    (lp : p < bytes_320_by_200.pages) (w : Window) (on : IsOnPage (d.last_row + 1) d.columns w) (direction : Direction) (n colour : ℕ) (lc : colour < 256) where
  abbrev s : Screen
  s = pixel_screen bytes_320_by_200 c d

  abbrev band : ColumnBand
  band = band_of_kind Packed d p w.left w.width

  page_is : p ≡ 0
  page_is = omega arith

  window : IsWindow 0xA0000 65536 band 0 (d.last_row + 1) w
  window = record {
    address = ap (λ x. x + d.size * p) (ap page_0_address_of_mode t.number) ∙ ap (λ x. 0xA0000 + d.size * x) page_is
        ∙ (let none : d.size * 0 ≡ 0 = omega arith in ap (λ x. 0xA0000 + x) none);
    memory = let a = screens.all_pixels c d t z in omega arith;
    below = on.below;
    after = let a = on.after in omega arith;
    left = refl;
    width = refl;
    wide = let a = t.has.columns in omega arith;
    high = let a = t.has.height in omega arith;
  }

  abbrev IsScrolled : (ℕ → ℕ) → (ℕ → ℕ) → Type 0
  IsScrolled = shifts.IsScrolled ℕ 0xA0000 65536 band 0 (d.last_row + 1) w window direction n (λ i _. filling_byte (one_byte_filling colour) i)

  abbrev old : ℕ → ℕ
  old = pixel_of_256_colours c.host.memory

  scrolls : 0 < n → n ≤ w.height → Leaves CardState ℕ (IsFlat (without_host c))
      (run card_meaning (scroll_rows band direction w.top w.height n colour) c).0 (IsScrolled old)
  unfolding scroll_rows fill_plan
  scrolls some few = shifts.filled_once CardState card_meaning 0xA0000 65536 band 0 (d.last_row + 1) w window (IsFlat (without_host c))
      (pixel_read (without_host c)) (λ j v y f lj lv u. put_flat (without_host c) j v y f lj lv u) (one_byte_filling colour) lc lc direction n c old
      some few (screens.begins c d t z)

  -- ---- the pixels

  none : (b : ℕ) → 0 + b ≡ b
  none b = omega arith

  pixels_scrolled : (f : ℕ → ℕ) → IsScrolled old f → (k : ℕ) → k < page_pixels d → f k ≡ scroll_pixels s w direction n colour (pixel_of s 0) k
  pixels_scrolled f is k lk =
      let row = character_row_of_pixel s k in
      let column = character_column_of_pixel s k in
      let far = source_number direction k (pixel_distance_of_rows s n) in
      by_both_tests (is_in_window w row column) (has_source_row direction w n row) (f k) (pixel_of s 0 far) (fill_pixel d.mode colour) (pixel_of s 0 k)
      (λ u m.
      ap f (sym (none k)) ∙ is.moved k u m ∙ ap old (none far)
      ∙ sym (screens.pixel_is c d t z far (shifts.source_within ℕ 0xA0000 65536 band 0 (d.last_row + 1) w window direction k n u m)))
      (λ u m.
      ap f (sym (none k)) ∙ (is.filled k u m).is ∙ filled_uniform colour (k % band.pitch - band.left)
      ∙ sym (ap (λ i. fill_pixel i colour) t.number))
      (λ u.
      is.outside k (λ b q. let same : k ≡ b = omega arith in subst (λ i. is_in_window w (character_row_of_pixel s i) (character_column_of_pixel s i) ≡ false) same u)
      ∙ sym (screens.pixel_is c d t z k lk))

  pub window_shown : 0 < n → n ≤ w.height → shown (run card_meaning (scroll_window_plan d p w direction n colour) c).0 d
      ≡ Some (scroll_window s p w direction n colour)
  window_shown some few =
      let done = scrolls some few in
      let change = scroll_pixels s w direction n colour in
      ap (λ k. shown (run card_meaning (scroll_rows (band_of_kind k d p w.left w.width) direction w.top w.height n colour) c).0 d) (ap kind_of t.number)
      ∙ screens.page_redrawn c d t z (run card_meaning (scroll_rows band direction w.top w.height n colour) c).0 done.cells change done.shown
      (pixels_scrolled done.cells done.fact)
      ∙ ap (λ i. Some (with_pixels s i change)) (sym page_is)
