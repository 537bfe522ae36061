-- Drawn memory of 256 colours as a flat list of pixels, and the screen that it shows.
use Rattle.std.proofs.Common.{◌≡◌, ℕ, ◌+◌, ◌*◌, ◌/◌, ◌%◌, ◌<◌, refl, sym, ap, ◌∙◌, subst, arith, List, Some}
use Rattle.std.specs.Prelude.{◌==◌, if◌then◌else◌}
use Rattle.bios_screen.proofs.Prelude.{Four, IsCard, card_meaning, CardState, BiosData, bytes_320_by_200, is_mode_of_256_colours, run, put, get, Screen, pixel_of_256_colours}
use Rattle.bios_screen.proofs.Prelude.{planar_pixel, pixel_in, page_pixels, pixel_screen, shown, pixel_of, with_pixels}
use Rattle.bios_screen.proofs.Base.Flat.{set_cell}
use Rattle.bios_services.proofs.CardLemmas.{plan_bounds}
use Rattle.bios_screen.proofs.Base.Setting.{setting, with_memory, get_decoded}
use Rattle.bios_screen.proofs.Modes.PixelModes.{setting_of}
use Rattle.bios_screen.proofs.Pixels.NewPixels.{page_renewed, pixels_stay}
use Rattle.bios_screen.proofs.Dots.PixelDots.{pixel_at}
use Rattle.bios_screen.proofs.Shows.Screens.{setting_by}
use Rattle.bios_screen.proofs.Dots.PackedDots.{IsPacked}
use Rattle.bios_screen.proofs.Packed.Memory.{decoded, byte_read, put_is, pixel_put, packed_memory}
use Rattle.bios_screen.proofs.Planar.Settings.{without_host}

-- the registers are those of the mode of 256 colours, and pixel k is f k
pub record IsFlat (rest : CardState) (c : CardState) (f : ℕ → ℕ) : Type 0 where
  pub mode : setting c ≡ setting_of bytes_320_by_200
  pub bounds : IsCard c
  pub cell : (k : ℕ) → pixel_of_256_colours c.host.memory k ≡ f k
  pub others : without_host c ≡ rest

-- a Put at pixel n changes that pixel only
pub put_flat : (rest : CardState) (n v : ℕ) (c : CardState) (f : ℕ → ℕ) → n < 65536 → v < 256 → IsFlat rest c f →
    IsFlat rest (run card_meaning (put (0xA0000 + n) v) c).0 (set_cell f n v)
put_flat rest n v c f l lv t =
    let after = put_is c n v t.mode l lv in
    let still : IsFlat rest (with_memory c (packed_memory c.host.memory n v)) (set_cell f n v) = record {
      mode = t.mode;
      bounds = subst IsCard after (plan_bounds (put (0xA0000 + n) v) c t.bounds);
      cell = λ k. pixel_put c.host.memory n v k t.bounds.host.memory.size l ∙ ap (λ x. if k == n then v else x) (t.cell k);
      others = t.others;
    } in
    subst (λ x. IsFlat rest x (set_cell f n v)) (sym after) still

-- a Get at pixel a answers it, and changes no pixel
pub record IsGot (rest : CardState) (a : ℕ) (c : CardState) (f : ℕ → ℕ) : Type 0 where
  pub still : IsFlat rest (run card_meaning (get (0xA0000 + a)) c).0 f
  pub value : (run card_meaning (get (0xA0000 + a)) c).1 ≡ f a

pub get_flat : (rest : CardState) (a : ℕ) (c : CardState) (f : ℕ → ℕ) → a < 65536 → IsFlat rest c f → IsGot rest a c f
get_flat rest a c f la t =
    let got = get_decoded c (setting_of bytes_320_by_200) (0xA0000 + a) t.mode (decoded c.host a la) in
    let after = ap (λ r. r.0) got in
    record {
      still = subst (λ y. IsFlat rest y f) (sym after) (record {
        mode = t.mode;
        bounds = subst IsCard after (plan_bounds (get (0xA0000 + a)) c t.bounds);
        cell = t.cell;
        others = t.others;
      });
      value = ap (λ r. r.1) got ∙ byte_read c.host a la (t.bounds.host.memory.bytes (a % 4) (omega arith) (a / 4 * 4)) ∙ t.cell a;
    }

module _ (c : CardState) (d : BiosData) (t : IsPacked c d) (z : IsCard c) where
  abbrev s : Screen
  s = pixel_screen bytes_320_by_200 c d

  pub setting_is : setting c ≡ setting_of bytes_320_by_200
  setting_is = setting_by bytes_320_by_200 c t.tests.memory

  pub begins : IsFlat (without_host c) c (pixel_of_256_colours c.host.memory)
  begins = record { mode = setting_is; bounds = z; cell = λ k. refl; others = refl }

  pub all_pixels : page_pixels d ≡ 64000
  all_pixels = ap (λ i. 8 * i * (d.height * (d.last_row + 1))) t.has.columns ∙ ap (λ i. 320 * (i * (d.last_row + 1))) t.has.height
      ∙ ap (λ i. 320 * (8 * (i + 1))) t.has.last_row

  -- pixel k of page 0, in a memory
  pixel_by : (m : Four (List ℕ)) (k : ℕ) → pixel_in d.mode m (d.size * 0) k ≡ pixel_of_256_colours m k
  pixel_by m k =
      let at : d.size * 0 + k ≡ k = omega arith in
      ap (λ i. if is_mode_of_256_colours i then pixel_of_256_colours m (d.size * 0 + k) else planar_pixel m (d.size * 0) k) t.number ∙ ap (pixel_of_256_colours m) at

  pub pixel_is : (k : ℕ) → k < page_pixels d → pixel_of s 0 k ≡ pixel_of_256_colours c.host.memory k
  pixel_is k l = pixel_at d.mode c.host.memory d.size (page_pixels d) 1 0 k (omega arith) l ∙ pixel_by c.host.memory k

  -- if the page has new pixels, the screen with these pixels is shown
  pub page_redrawn : (y : CardState) (f : ℕ → ℕ) (change : (ℕ → ℕ) → ℕ → ℕ) → IsFlat (without_host c) y f →
      ((k : ℕ) → k < page_pixels d → f k ≡ change (pixel_of s 0) k) → shown y d ≡ Some (with_pixels s 0 change)
  page_redrawn y f change h inside =
      page_renewed bytes_320_by_200 c y d (t.there d.height) t.text t.tests (h.mode ∙ sym setting_is) h.others 0 change (omega arith)
      (λ k l. pixel_by y.host.memory k ∙ h.cell k ∙ inside k l) (λ g k lg w l. absurd (w (omega arith)))

  -- if all pixels are as they were, the same screen is shown
  pub stays : (y : CardState) → IsFlat (without_host c) y (pixel_of_256_colours c.host.memory) → shown y d ≡ Some s
  stays y h = pixels_stay bytes_320_by_200 c y d (t.there d.height) t.text t.tests (h.mode ∙ sym setting_is) h.others (λ g k lg _.
      let first : g ≡ 0 = omega arith in
      ap (λ i. pixel_in d.mode y.host.memory (d.size * i) k) first ∙ pixel_by y.host.memory k ∙ h.cell k ∙ sym (pixel_by c.host.memory k)
      ∙ ap (λ i. pixel_in d.mode c.host.memory (d.size * i) k) (sym first))
