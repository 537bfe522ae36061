-- Services that change only pixels: from pixels known one by one to the next screen.
use Rattle.std.proofs.Common.{◌≡◌, ◌≢◌, ℕ, ◌+◌, ◌*◌, ◌<◌, sym, ap, ◌∙◌, arith, List, [], length, get_or, Some, false}
use Rattle.std.specs.Prelude.{set}
use Rattle.bios_screen.proofs.Prelude.{Four, CardState, ModeRow, mode_row_at_height, BiosData, is_text, list_by_function, Screen, has_attribute_registers_of_mode, pixel_in, page_pixels}
use Rattle.bios_screen.proofs.Prelude.{pixel_screen, shown, pixel_of, with_pixels}
use Rattle.bios_screen.specs.Screen.{Pixels}
use Rattle.bios_screen.specs.Shown.{pixels_in, pixel_pages, screen_with_contents}
use Rattle.bios_screen.proofs.Base.Lists.{same_from_0, length_listing, listed_at, listing_set}
use Rattle.bios_screen.proofs.Base.Places.{ends_before}
use Rattle.bios_screen.proofs.Base.Setting.{setting}
use Rattle.bios_screen.proofs.Shows.Screens.{AllTests}
use Rattle.bios_screen.proofs.Shows.Pixels.{pixels_shown_of}
use Rattle.bios_screen.proofs.Shows.Any.{same_tests}
use Rattle.bios_screen.proofs.Planar.Settings.{without_host}

-- the pixel at column x of line y is on the page
pub record There (d : BiosData) (x y : ℕ) : Type 0 where
  pub across : x < 8 * d.columns
  pub down : y < d.height * (d.last_row + 1)

pub number_within : (d : BiosData) (x y : ℕ) → There d x y → 8 * d.columns * y + x < page_pixels d
number_within d x y h = let a = h.across in let b = ends_before (8 * d.columns) y (d.height * (d.last_row + 1)) h.down in omega arith

-- ---- what an adapter shows after a service

module _ (row : ModeRow) (c y : CardState) (d : BiosData) (e : mode_row_at_height d.mode d.height ≡ Some row) (text : is_text d.mode ≡ false) (t : AllTests row c d)
    (same : setting y ≡ setting c) (others : without_host y ≡ without_host c) where
  abbrev s : Screen
  s = pixel_screen row c d

  abbrev n : ℕ
  n = page_pixels d

  -- pixel k of page g
  abbrev pixel : Four (List ℕ) → ℕ → ℕ → ℕ
  pixel m g k = pixel_in d.mode m (d.size * g) k

  abbrev page : Four (List ℕ) → ℕ → List ℕ
  page m g = pixels_in d.mode m (d.size * g) n

  -- the screen that is then shown has the pages now in memory
  pub redrawn : shown y d ≡ Some (screen_with_contents row c d 0 (Pixels (pixel_pages d.mode y.host.memory d.size n row.pages)) [])
  redrawn =
      pixels_shown_of y d row e text (same_tests row c y d same (ap (λ (x : CardState). x.crtc.registers) others)
      (ap (λ (x : CardState). has_attribute_registers_of_mode row x.attr) others ∙ t.attribute) t)
      ∙ ap (λ (x : CardState). Some (screen_with_contents row x d 0 (Pixels (pixel_pages d.mode y.host.memory d.size n row.pages)) [])) others

  -- one page has new pixels
  pub page_renewed : (p : ℕ) (change : (ℕ → ℕ) → ℕ → ℕ) → p < row.pages → ((k : ℕ) → k < n → pixel y.host.memory p k ≡ change (pixel_of s p) k)
      → ((g k : ℕ) → g < row.pages → g ≢ p → k < n → pixel y.host.memory g k ≡ pixel c.host.memory g k) → shown y d ≡ Some (with_pixels s p change)
  unfolding pixel_pages pixels_in
  page_renewed p change lp inside outside =
      let old = pixel_pages d.mode c.host.memory d.size n row.pages in
      let new = list_by_function (change (pixel_of s p)) 0 n in
      let long : length (get_or old p []) ≡ n = ap length (listed_at (page c.host.memory) row.pages p [] lp) ∙ length_listing (pixel c.host.memory p) 0 n in
      let pages : pixel_pages d.mode y.host.memory d.size n row.pages ≡ set old p new =
      listing_set (page c.host.memory) (page y.host.memory) row.pages p new lp (same_from_0 (change (pixel_of s p)) (pixel y.host.memory p) n inside)
      (λ g lg w. same_from_0 (pixel c.host.memory g) (pixel y.host.memory g) n (λ k l. outside g k lg w l)) in
      redrawn ∙ ap (λ x. Some (screen_with_contents row c d 0 (Pixels x) [])) (pages ∙ ap (λ i. set old p (list_by_function (change (pixel_of s p)) 0 i)) (sym long))

  -- if all pixels are as they were, the same screen is shown
  pub pixels_stay : ((g k : ℕ) → g < row.pages → k < n → pixel y.host.memory g k ≡ pixel c.host.memory g k) → shown y d ≡ Some s
  unfolding pixel_pages pixels_in
  pixels_stay stay =
      redrawn
      ∙ ap (λ x. Some (screen_with_contents row c d 0 (Pixels x) [])) (same_from_0 (page c.host.memory) (page y.host.memory) row.pages (λ g lg.
      same_from_0 (pixel c.host.memory g) (pixel y.host.memory g) n (λ k l. stay g k lg l)))
