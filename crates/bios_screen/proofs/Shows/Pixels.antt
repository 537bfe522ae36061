-- What a shown screen of pixels implies for registers and data.
use Rattle.std.proofs.Common.{◌≡◌, sym, ap, ◌∙◌, false, Some}
use Rattle.std.specs.Prelude.{if◌then◌else◌}
use Rattle.bios_screen.proofs.Prelude.{CardState, ModeRow, mode_row_at_height, BiosData, is_text, Screen, pixel_screen, shown}
use Rattle.bios_screen.specs.Shown.{text_screen, screen_of}
use Rattle.bios_screen.proofs.Shows.Screens.{HasData, data_is, AllTests, row_shown, shown_by_row}

-- what is known when a screen of pixels is shown
pub record IsPixels (c : CardState) (d : BiosData) : Type 0 where
  pub row : ModeRow
  pub mode : mode_row_at_height d.mode d.height ≡ Some row
  pub text : is_text d.mode ≡ false
  pub tests : AllTests row c d
  pub has : HasData row d

abbrev pub pixels_shown : (c : CardState) (d : BiosData) → IsPixels c d → Screen
pixels_shown c d h = pixel_screen h.row c d

pub record ShowsPixels (c : CardState) (d : BiosData) (s : Screen) : Type 0 where
  pub is : IsPixels c d
  pub screen : pixels_shown c d is ≡ s

-- in graphics the screen of the mode's kind is the screen of pixels
pub screen_is_pixels : (row : ModeRow) (c : CardState) (d : BiosData) → is_text d.mode ≡ false → screen_of row c d ≡ pixel_screen row c d
screen_is_pixels row c d t = ap (λ b. let x : Screen = (if b then text_screen row c d else pixel_screen row c d) in x) t

pub pixels_of_shown : (c : CardState) (d : BiosData) (s : Screen) → is_text d.mode ≡ false → shown c d ≡ Some s → ShowsPixels c d s
pixels_of_shown c d s t h =
    let x = row_shown c d s h in
    record {
      is = record { row = x.row; mode = x.mode; text = t; tests = x.tests; has = data_is x.row d x.tests.data_test };
      screen = sym (screen_is_pixels x.row c d t) ∙ x.screen;
    }

-- conversely, if the tests hold in graphics, the screen of pixels is shown
pub pixels_shown_of : (c : CardState) (d : BiosData) (row : ModeRow) → mode_row_at_height d.mode d.height ≡ Some row → is_text d.mode ≡ false → AllTests row c d →
    shown c d ≡ Some (pixel_screen row c d)
pixels_shown_of c d row e t tests = shown_by_row c d row e tests ∙ ap (λ (x : Screen). Some x) (screen_is_pixels row c d t)
