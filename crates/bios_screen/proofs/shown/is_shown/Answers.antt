use Rattle.std.proofs.Common.{◌≡◌, Bool, true, false, refl, ap, sym, ◌∙◌}
use Rattle.std.specs.Prelude.{◌&&◌}
use Rattle.std.specs.Str.{bytes_eq}
use Rattle.bios_screen.proofs.Prelude.{CrtcState, CardState, ModeRow, BiosData, has_attribute_registers_of_mode}
use Rattle.bios_screen.specs.Shown.{shows, has_memory_registers_of_mode, has_bios_data_of_mode, crtc_registers_shown}
use Rattle.bios_screen.proofs.shown.is_shown.Goals as goal

third_fails : (m d p a : Bool) → p ≡ false → false ≡ (m && (d && (p && a)))
third_fails false d p a e = refl
third_fails true false p a e = refl
third_fails true true true a e = absurd (cc)
third_fails true true false a e = refl

-- if the CRT controller does not show the page, no screen is shown
page_not_shown : (row : ModeRow) (c : CardState) (d : BiosData) (x : CrtcState) (r : Bool) → x ≡ c.crtc
    → r ≡ bytes_eq x.registers (crtc_registers_shown row d x.registers) → r ≡ false → r ≡ shows row c d
unfolding shows
page_not_shown row c d x r same page fails =
    fails
    ∙ third_fails (has_memory_registers_of_mode row c) (has_bios_data_of_mode row d) (bytes_eq c.crtc.registers (crtc_registers_shown row d c.crtc.registers)) (has_attribute_registers_of_mode row c.attr)
    (sym (page ∙ ap (λ (y : CrtcState). bytes_eq y.registers (crtc_registers_shown row d y.registers)) same) ∙ fails)

pub returns-else-shows_page : goal.returns-else-shows_page
returns-else-shows_page c =
    page_not_shown c.args.row.now c.args.card.now c.args.bda.now c.regs-regs.result.crtc.now c.shows_page.result c.regs-regs.ensures.crtc c.shows_page.ensures
    c.if-shows_page.false
