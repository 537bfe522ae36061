-- A screen is text or pixels; pixels have sixteen colours or 256.
use Rattle.std.proofs.Common.{◌≡◌, refl, subst, Bool, true, false, Some}
use Rattle.bios_screen.proofs.Prelude.{CardState, ModeRow, bytes_320_by_200, BiosData, is_text, Screen, pixel_screen, shown}
use Rattle.bios_screen.proofs.Shows.Screens.{AllTests, data_is, IsShown, screen_shown, shown_is}
use Rattle.bios_screen.proofs.Shows.Pixels.{IsPixels, pixels_shown, pixels_of_shown}
use Rattle.bios_screen.proofs.Modes.PixelModes.{IsPackedRow}
use Rattle.bios_screen.proofs.Modes.AnyModes.{Colours, colours_is}
use Rattle.bios_screen.proofs.Modes.AnyModes.Colours.{Sixteen, Many}
use Rattle.bios_screen.proofs.Dots.PlanarDots.{IsPlanar}
use Rattle.bios_screen.proofs.Dots.PackedDots.{IsPacked}

-- every shown screen of pixels has a property, if those of sixteen colours and that of 256 have it
pub by_colours : (c : CardState) (d : BiosData) (Q : Screen → Type 0) → ((row : ModeRow) → IsPlanar row c d → Q (pixel_screen row c d)) →
    (IsPacked c d → Q (pixel_screen bytes_320_by_200 c d)) → (s : Screen) → is_text d.mode ≡ false → shown c d ≡ Some s → Q s
by_colours c d Q planar packed s t e =
    let x = pixels_of_shown c d s t e in
    subst Q x.screen (by_row x.is.row (colours_is d.mode d.height x.is.row t x.is.mode) x.is.tests)
  where
    by_row : (row : ModeRow) → Colours d.mode row → AllTests row c d → Q (pixel_screen row c d)
    by_row row (Sixteen is) tests = planar row (record {
      graphics = record { says = is.graphics; tests = tests; has = data_is row d tests.data_test };
      planes = is.planes;
      shades = is.shades;
    })
    by_row row (Many is) tests = subst (λ r. IsPackedRow d.mode r → AllTests r c d → Q (pixel_screen r c d)) is.literal (λ p tests. packed (record {
      number = p.number;
      graphics = record { says = p.graphics; tests = tests; has = data_is bytes_320_by_200 d tests.data_test };
      wide = p.columns;
      high = p.height;
    })) is tests

-- every shown screen has a property, if those of text and those of pixels have it
pub by_contents : (c : CardState) (d : BiosData) (Q : Screen → Type 0) → ((h : IsShown c d) → Q (screen_shown c d h)) →
    ((h : IsPixels c d) → Q (pixels_shown c d h)) → (s : Screen) → shown c d ≡ Some s → Q s
by_contents c d Q text pixels s e = by_kind (is_text d.mode) refl
  where
    by_kind : (b : Bool) → is_text d.mode ≡ b → Q s
    by_kind true t = let x = shown_is c d s t e in subst Q x.screen (text x.is)
    by_kind false t = let x = pixels_of_shown c d s t e in subst Q x.screen (pixels x.is)

-- the same by three cases: text, sixteen colours and 256 colours
pub by_modes : (c : CardState) (d : BiosData) (Q : Screen → Type 0) → ((h : IsShown c d) → Q (screen_shown c d h))
    → ((row : ModeRow) → IsPlanar row c d → Q (pixel_screen row c d)) → (IsPacked c d → Q (pixel_screen bytes_320_by_200 c d))
    → (s : Screen) → shown c d ≡ Some s → Q s
by_modes c d Q text planar packed s e = by_kind (is_text d.mode) refl
  where
    by_kind : (b : Bool) → is_text d.mode ≡ b → Q s
    by_kind true t = let x = shown_is c d s t e in subst Q x.screen (text x.is)
    by_kind false t = by_colours c d Q planar packed s t e
