-- The rows of the mode table by number: each is a text row or a graphics row, with all that this
-- implies.
use Rattle.std.proofs.Common.{◌≡◌, ℕ, ap, subst, ◌∙◌, Bool, true, false, Some}
use Rattle.bios_screen.proofs.Prelude.{ModeRow, mode_row_at_height, bytes_320_by_200, is_text}
use Rattle.bios_modes.specs.Heights.{value_of_row, row_at_height}
use Rattle.bios_modes.specs.Modes.{planes_320_by_200, planes_640_by_350, planes_640_by_480}
use Rattle.bios_modes.proofs.RowLemmas.{each_mode}
use Rattle.bios_screen.proofs.Base.Tests.{none_some, some_same}
use Rattle.bios_screen.proofs.Modes.TextModes.{Display, number_of, text_by, TextRow, row_of_text}
use Rattle.bios_screen.proofs.Modes.TextModes.Display.{Colour, Monochrome}
use Rattle.bios_screen.proofs.Modes.PixelModes.{IsGraphicsRow, IsPlanarRow, IsPackedRow, planar_0d, planar_10, planar_12, packed_13}

-- a graphics row, by its number of colours
pub data Colours (mode : ℕ) (row : ModeRow) : Type 0 where
  Sixteen : IsPlanarRow mode row → Colours mode row
  Many : IsPackedRow mode row → Colours mode row

pub says_of : (mode : ℕ) (row : ModeRow) → Colours mode row → IsGraphicsRow mode row
says_of mode row (Sixteen is) = is.graphics
says_of mode row (Many is) = is.graphics

data Tabled (mode : ℕ) (row : ModeRow) : Type 0 where
  OfText : TextRow mode row → Tabled mode row
  OfPixels : Colours mode row → Tabled mode row

tabled : (mode height : ℕ) (row : ModeRow) → mode_row_at_height mode height ≡ Some row → Tabled mode row
tabled mode height row =
    each_mode (λ m x. value_of_row x (λ r. row_at_height r height) ≡ Some row → Tabled m row) (text Colour) (text Monochrome)
    (λ e. OfPixels (Sixteen (subst (IsPlanarRow 0x0D) (some_same planes_320_by_200 row e) planar_0d)))
    (λ e. OfPixels (Sixteen (subst (IsPlanarRow 0x10) (some_same planes_640_by_350 row e) planar_10)))
    (λ e. OfPixels (Sixteen (subst (IsPlanarRow 0x12) (some_same planes_640_by_480 row e) planar_12)))
    (λ e. OfPixels (Many (subst (IsPackedRow 0x13) (some_same bytes_320_by_200 row e) packed_13)))
    (λ m e. none_some row e) mode
  where
    text : (k : Display) → mode_row_at_height (number_of k) height ≡ Some row → Tabled (number_of k) row
    text k e = OfText (row_of_text k height row e)

not_both : {Y : Type 0} (b : Bool) → b ≡ true → b ≡ false → Y
not_both b t f = absurd (cc)

-- the row of a text mode is a text row
pub text_row_is : (mode height : ℕ) (row : ModeRow) → is_text mode ≡ true → mode_row_at_height mode height ≡ Some row → TextRow mode row
text_row_is mode height row t e = by_kind (tabled mode height row e)
  where
    by_kind : Tabled mode row → TextRow mode row
    by_kind (OfText is) = is
    by_kind (OfPixels k) = not_both (is_text mode) t (says_of mode row k).text

-- the row of any other mode is a graphics row
pub colours_is : (mode height : ℕ) (row : ModeRow) → is_text mode ≡ false → mode_row_at_height mode height ≡ Some row → Colours mode row
colours_is mode height row t e = by_kind (tabled mode height row e)
  where
    by_kind : Tabled mode row → Colours mode row
    by_kind (OfText is) = not_both (is_text mode) (ap is_text is.number ∙ text_by is.display) t
    by_kind (OfPixels k) = k

pub says_is : (mode height : ℕ) (row : ModeRow) → is_text mode ≡ false → mode_row_at_height mode height ≡ Some row → IsGraphicsRow mode row
says_is mode height row t e = says_of mode row (colours_is mode height row t e)
