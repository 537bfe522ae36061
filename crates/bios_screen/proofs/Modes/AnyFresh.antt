-- A clearing mode set to any mode of the table.
use Rattle.std.proofs.Common.{◌≡◌, ℕ, refl, sym, ap, ◌∙◌, subst, Bool, true, false, Some}
use Rattle.bios_screen.proofs.Prelude.{ModeRow, is_text}
use Rattle.bios_modes.specs.Modes.{mode_row}
use Rattle.bios_modes.proofs.RowLemmas.{own_row}
use Rattle.bios_screen.specs.AfterCall.{ModeSetShowsFreshScreen}
use Rattle.bios_screen.proofs.Base.Tests.{some_same}
use Rattle.bios_screen.proofs.Modes.TextModes.{TextRow, mode_row_of_display, number_of}
use Rattle.bios_screen.proofs.Modes.PixelModes.{graphics_13}
use Rattle.bios_screen.proofs.Modes.AnyModes.{Colours, text_row_is, colours_is}
use Rattle.bios_screen.proofs.Modes.AnyModes.Colours.{Sixteen, Many}
use Rattle.bios_screen.proofs.Modes.TextFresh.{set_by, text_set_fresh}
use Rattle.bios_screen.proofs.Modes.PixelFresh.{planar_set_fresh, packed_set_fresh}

pub any_set_fresh : (mode : ℕ) (row : ModeRow) → mode_row mode ≡ Some row → ModeSetShowsFreshScreen mode row
any_set_fresh mode row e = by_kind (is_text mode) refl
  where
    by_text : TextRow mode row → ModeSetShowsFreshScreen mode row
    by_text is =
        let k = is.display in
        let same = some_same (mode_row_of_display k) row (sym (ap mode_row is.number ∙ (set_by k).table) ∙ e) in
        subst (λ m. ModeSetShowsFreshScreen m row) (sym is.number) (subst (ModeSetShowsFreshScreen (number_of k)) same (text_set_fresh k))

    by_colours : Colours mode row → ModeSetShowsFreshScreen mode row
    by_colours (Sixteen is) = planar_set_fresh mode row is
    by_colours (Many is) = subst (λ m. ModeSetShowsFreshScreen m row) (sym is.number) (subst (ModeSetShowsFreshScreen 0x13) is.literal (packed_set_fresh graphics_13))

    by_kind : (b : Bool) → is_text mode ≡ b → ModeSetShowsFreshScreen mode row
    by_kind true t = by_text (text_row_is mode row.height row t (own_row mode row e))
    by_kind false t = by_colours (colours_is mode row.height row t (own_row mode row e))
