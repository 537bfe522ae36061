-- The layout that is read from the BIOS data is that of the screen that is shown.
use Rattle.std.proofs.Common.{◌≡◌, true, false, Bool, refl, sym, ap, ◌∙◌, Option, None, Some}
use Rattle.std.specs.Prelude.{if◌then◌else◌}
use Rattle.bios_modes.specs.declared.modes.ModeRow.{ModeRow}
use Rattle.bios_modes.specs.Heights.{mode_row_at_height}
use Rattle.bios_modes.specs.Kinds.{is_text}
use Rattle.bios_modes.specs.Bda.{BiosData}
use Rattle.bios_screen.specs.Screen.{Screen}
use Rattle.bios_screen.specs.Shown.{pixel_screen, screen_of, shown, screen_shown_in_mode, shows, text_screen}
use Rattle.vga_card.specs.Card.{CardState}
use Rattle.vga_c.specs.declared.screens.ScreenLayout.{ScreenLayout}
use Rattle.vga_c.specs.Screens.{ask_layout, layout_by_bios_data, layout_in}

abbrev layout_of_shown : Option Screen → Option ScreenLayout
layout_of_shown None = None
layout_of_shown (Some s) = Some (layout_in s)

module _ (c : CardState) (d : BiosData) (row : ModeRow) where
  -- whatever the kind of the mode
  by_kind : (text : Bool) → layout_by_bios_data (Some row) d ≡ Some (layout_in (if text then text_screen row c d else pixel_screen row c d))
  by_kind true = refl
  by_kind false = refl

  -- whatever the test of the registers says
  by_test : (test : Bool) (s : Screen) → Some s ≡ (if test then Some (screen_of row c d) else None) → layout_by_bios_data (Some row) d ≡ Some (layout_in s)
  by_test true s is = by_kind (is_text d.mode) ∙ sym (ap layout_of_shown is)
  by_test false s is = absurd (cc)

by_row : (c : CardState) (d : BiosData) (row : Option ModeRow) (s : Screen) → Some s ≡ screen_shown_in_mode row c d → layout_by_bios_data row d ≡ Some (layout_in s)
by_row c d None s is = absurd (cc)
by_row c d (Some row) s is = by_test c d row (shows row c d) s is

pub layout_shown : (c : CardState) (d : BiosData) (s : Screen) → Some s ≡ shown c d → layout_by_bios_data (mode_row_at_height d.mode d.height) d ≡ ask_layout s
layout_shown c d s is = by_row c d (mode_row_at_height d.mode d.height) s is
