-- What a shown screen implies for registers and data, and what makes a screen shown.
use Rattle.std.proofs.Common.{◌≡◌, ℕ, ◌+◌, ◌*◌, ◌<◌, refl, sym, ap, ◌∙◌, subst, Bool, true, false, List, Option, Some, None}
use Rattle.std.specs.Prelude.{slice_index, bit_and, ◌==◌, ◌&&◌, if◌then◌else◌}
use Rattle.std.specs.Str.{bytes_eq}
use Rattle.std.proofs.lemmas.Slice.Eq.{bytes_eq-Decides}
use Rattle.bios_screen.proofs.Prelude.{is_palette_shown, CardState, ModeRow, mode_row_at_height, BiosData, Planar, page_count, page_or_0_if_only_one, page_or_0_in_mode_of_one_page, is_text, kind_of}
use Rattle.bios_screen.proofs.Prelude.{start_address, Screen, crtc_registers, has_attribute_registers_of_mode, pixel_screen, shown}
use Rattle.bios_modes.specs.declared.kind.Kind.{Kind}
use Rattle.bios_modes.specs.declared.kind.Kind.TheVariants.{Text, Packed}
use Rattle.bios_services.specs.Bounds.{pages_of_row}
use Rattle.bios_modes.specs.Kinds.{is_text_kind}
use Rattle.bios_services.specs.Cursor.{cursor_address}
use Rattle.bios_screen.specs.Shown.{has_memory_registers_of_mode, crtc_registers_shown, has_bios_data_of_mode, shows, text_screen, screen_of}
use Rattle.bios_screen.specs.Shown.{screen_shown_in_mode}
use Rattle.bios_screen.proofs.Base.Tests.{both_true, if_some, none_some, same, lt_is}
use Rattle.bios_screen.proofs.Base.Setting.{Setting, setting}
use Rattle.bios_screen.proofs.Modes.TextModes.{Display, text_setting, text_sequencer, misc_of, IsTextRow, Height, row_with, number_of, control_of}
use Rattle.bios_screen.proofs.Modes.TextModes.{control_by}
use Rattle.bios_screen.proofs.Modes.AnyModes.{text_row_is}

-- the data are those of the row, with one of its pages
pub record HasData (row : ModeRow) (d : BiosData) : Type 0 where
  pub columns : d.columns ≡ row.columns
  pub size : d.size ≡ row.size
  pub last_row : d.last_row ≡ row.last_row
  pub height : d.height ≡ row.height
  pub port : d.crtc_address ≡ row.crtc_address
  pub start : d.start ≡ d.size * d.page
  pub page : d.page < row.pages

-- a mode has as many pages as its row, and a call's page number means one of these
pub pages_are : (row : ModeRow) (d : BiosData) → mode_row_at_height d.mode d.height ≡ Some row → page_count d ≡ row.pages
pages_are row d e = ap pages_of_row e

pub page_in : (row : ModeRow) (d : BiosData) (p : ℕ) → mode_row_at_height d.mode d.height ≡ Some row → p < page_count d → p < row.pages
page_in row d p e l = subst (λ n. p < n) (pages_are row d e) l

pub page_of : (row : ModeRow) (d : BiosData) (p : ℕ) → mode_row_at_height d.mode d.height ≡ Some row → p < row.pages → p < page_count d
page_of row d p e l = subst (λ n. p < n) (sym (pages_are row d e)) l

pub named_page : (row : ModeRow) (d : BiosData) → mode_row_at_height d.mode d.height ≡ Some row → (page : ℕ) → page_or_0_in_mode_of_one_page d page ≡ page_or_0_if_only_one row.pages page
named_page row d e page = ap (λ n. page_or_0_if_only_one n page) (pages_are row d e)

pub data_is : (row : ModeRow) (d : BiosData) → has_bios_data_of_mode row d ≡ true → HasData row d
data_is row d h =
    let a = both_true (d.columns == row.columns) _ h in
    let b = both_true (d.size == row.size) _ a.1 in
    let e = both_true (d.last_row == row.last_row) _ b.1 in
    let f = both_true (d.height == row.height) _ e.1 in
    let g = both_true (d.crtc_address == row.crtc_address) _ f.1 in
    let i = both_true (d.start == d.size * d.page) _ g.1 in
    record { columns = same a.0; size = same b.0; last_row = same e.0; height = same f.0; port = same g.0; start = same i.0; page = lt_is d.page row.pages i.1 }

-- the parts of the test
pub record AllTests (row : ModeRow) (c : CardState) (d : BiosData) : Type 0 where
  pub memory : has_memory_registers_of_mode row c ≡ true
  pub data_test : has_bios_data_of_mode row d ≡ true
  pub crtc : c.crtc.registers ≡ crtc_registers_shown row d c.crtc.registers
  pub attribute : has_attribute_registers_of_mode row c.attr ≡ true

pub all_tests_of : (row : ModeRow) (c : CardState) (d : BiosData) → shows row c d ≡ true → AllTests row c d
unfolding shows
all_tests_of row c d h =
    let wanted = crtc_registers_shown row d c.crtc.registers in
    let a = both_true (has_memory_registers_of_mode row c) (has_bios_data_of_mode row d && (bytes_eq c.crtc.registers wanted && has_attribute_registers_of_mode row c.attr)) h in
    let b = both_true (has_bios_data_of_mode row d) (bytes_eq c.crtc.registers wanted && has_attribute_registers_of_mode row c.attr) a.1 in
    let e = both_true (bytes_eq c.crtc.registers wanted) (has_attribute_registers_of_mode row c.attr) b.1 in
    record { memory = a.0; data_test = b.0; crtc = (bytes_eq-Decides c.crtc.registers wanted).0 e.0; attribute = e.1 }

pub shows_by : (row : ModeRow) (c : CardState) (d : BiosData) → AllTests row c d → shows row c d ≡ true
unfolding shows
shows_by row c d t =
    let wanted = crtc_registers_shown row d c.crtc.registers in
    ap (λ b. b && (has_bios_data_of_mode row d && (bytes_eq c.crtc.registers wanted && has_attribute_registers_of_mode row c.attr))) t.memory
    ∙ ap (λ b. b && (bytes_eq c.crtc.registers wanted && has_attribute_registers_of_mode row c.attr)) t.data_test
    ∙ ap (λ b. b && has_attribute_registers_of_mode row c.attr) ((bytes_eq-Decides c.crtc.registers wanted).1 t.crtc)
    ∙ t.attribute

-- the row of a shown screen, whose tests hold
pub record ShowsRow (c : CardState) (d : BiosData) (s : Screen) : Type 0 where
  pub row : ModeRow
  pub mode : mode_row_at_height d.mode d.height ≡ Some row
  pub tests : AllTests row c d
  pub screen : screen_of row c d ≡ s

pub row_shown : (c : CardState) (d : BiosData) (s : Screen) → shown c d ≡ Some s → ShowsRow c d s
row_shown c d s h = by_row (mode_row_at_height d.mode d.height) refl h
  where
    by_row : (x : Option ModeRow) → mode_row_at_height d.mode d.height ≡ x → screen_shown_in_mode x c d ≡ Some s → ShowsRow c d s
    by_row None e g = none_some s g
    by_row (Some row) e g =
        let parts = if_some (shows row c d) (screen_of row c d) s g in
        record { row = row; mode = e; tests = all_tests_of row c d parts.0; screen = parts.1 }

-- conversely, if a row's tests hold, its screen is shown
pub shown_by_row : (c : CardState) (d : BiosData) (row : ModeRow) → mode_row_at_height d.mode d.height ≡ Some row → AllTests row c d → shown c d ≡ Some (screen_of row c d)
shown_by_row c d row e t =
    ap (λ x. screen_shown_in_mode x c d) e ∙ ap (λ b. if b then Some (screen_of row c d) else None) (shows_by row c d t)

-- the test determines the registers that memory cycles depend on
pub setting_by : (row : ModeRow) (c : CardState) → has_memory_registers_of_mode row c ≡ true → setting c ≡ record { misc = row.misc; seq = row.sequencer; gfx = row.graphics }
setting_by row c h =
    let a = both_true (c.misc == row.misc) (bytes_eq c.host.seq row.sequencer && bytes_eq c.host.gfx row.graphics) h in
    let b = both_true (bytes_eq c.host.seq row.sequencer) (bytes_eq c.host.gfx row.graphics) a.1 in
    ap (λ x. let r : Setting = record { misc = x; seq = c.host.seq; gfx = c.host.gfx } in r) (same a.0)
    ∙ ap (λ x. let r : Setting = record { misc = row.misc; seq = x; gfx = c.host.gfx } in r) ((bytes_eq-Decides c.host.seq row.sequencer).0 b.0)
    ∙ ap (λ x. let r : Setting = record { misc = row.misc; seq = row.sequencer; gfx = x } in r) ((bytes_eq-Decides c.host.gfx row.graphics).0 b.1)

-- ---- text

-- the registers of the CRT controller in text
abbrev pub text_crtc : ModeRow → BiosData → List ℕ
text_crtc row d = crtc_registers row d.cursor_type (start_address d d.page) (cursor_address d d.page)

text_crtc_is : (row : ModeRow) (d : BiosData) (l : List ℕ) → is_text d.mode ≡ true → crtc_registers_shown row d l ≡ text_crtc row d
text_crtc_is row d l t = ap (λ b. crtc_registers row d.cursor_type (start_address d d.page) (if b then cursor_address d d.page
    else 256 * slice_index l 0x0E + slice_index l 0x0F)) t

-- the parts of the test in text
pub record Tests (row : ModeRow) (c : CardState) (d : BiosData) : Type 0 where
  pub is_text : is_text d.mode ≡ true
  pub memory : has_memory_registers_of_mode row c ≡ true
  pub data_test : has_bios_data_of_mode row d ≡ true
  pub crtc : c.crtc.registers ≡ text_crtc row d
  pub attribute : has_attribute_registers_of_mode row c.attr ≡ true

pub tests_of : (row : ModeRow) (c : CardState) (d : BiosData) → is_text d.mode ≡ true → shows row c d ≡ true → Tests row c d
tests_of row c d text h =
    let t = all_tests_of row c d h in
    record { is_text = text; memory = t.memory; data_test = t.data_test; crtc = t.crtc ∙ text_crtc_is row d c.crtc.registers text; attribute = t.attribute }

pub all_of : (row : ModeRow) (c : CardState) (d : BiosData) → Tests row c d → AllTests row c d
all_of row c d t = record {
  memory = t.memory;
  data_test = t.data_test;
  crtc = t.crtc ∙ sym (text_crtc_is row d c.crtc.registers t.is_text);
  attribute = t.attribute;
}

pub test_of : (row : ModeRow) (c : CardState) (d : BiosData) → Tests row c d → shows row c d ≡ true
test_of row c d t = shows_by row c d (all_of row c d t)

-- in text these registers are those of the display
setting_is : (disp : Display) (mode : ℕ) (row : ModeRow) (c : CardState) → IsTextRow disp mode row → has_memory_registers_of_mode row c ≡ true → setting c ≡ text_setting disp
setting_is disp mode row c text h =
    setting_by row c h
    ∙ ap (λ x. let r : Setting = record { misc = x; seq = row.sequencer; gfx = row.graphics } in r) text.misc
    ∙ ap (λ x. let r : Setting = record { misc = misc_of disp; seq = x; gfx = row.graphics } in r) text.sequencer
    ∙ ap (λ x. let r : Setting = record { misc = misc_of disp; seq = text_sequencer; gfx = x } in r) text.graphics

-- what is known when a text screen is shown
pub record IsShown (c : CardState) (d : BiosData) : Type 0 where
  pub row : ModeRow
  pub mode : mode_row_at_height d.mode d.height ≡ Some row
  pub display : Display
  pub height : Height
  pub text : IsTextRow display d.mode row
  pub row_is : row ≡ row_with display height
  pub number : d.mode ≡ number_of display
  pub tests : Tests row c d
  pub has : HasData row d
  pub setting : setting c ≡ text_setting display

abbrev pub screen_shown : (c : CardState) (d : BiosData) → IsShown c d → Screen
screen_shown c d h = text_screen h.row c d

-- the text screen that is shown, and what is known then
pub record Shows (c : CardState) (d : BiosData) (s : Screen) : Type 0 where
  pub is : IsShown c d
  pub screen : screen_shown c d is ≡ s

-- in text the screen of the mode's kind is the text screen
pub screen_is_text : (row : ModeRow) (c : CardState) (d : BiosData) → is_text d.mode ≡ true → screen_of row c d ≡ text_screen row c d
screen_is_text row c d t = ap (λ b. let x : Screen = (if b then text_screen row c d else pixel_screen row c d) in x) t

pub shown_is : (c : CardState) (d : BiosData) (s : Screen) → is_text d.mode ≡ true → shown c d ≡ Some s → Shows c d s
shown_is c d s t h =
    let x = row_shown c d s h in
    let text = text_row_is d.mode d.height x.row t x.mode in
    record {
      is = record {
        row = x.row;
        mode = x.mode;
        display = text.display;
        height = text.height;
        text = text.is;
        row_is = text.row_is;
        number = text.number;
        tests = tests_of x.row c d t (shows_by x.row c d x.tests);
        has = data_is x.row d x.tests.data_test;
        setting = setting_is text.display d.mode x.row c text.is x.tests.memory;
      };
      screen = sym (screen_is_text x.row c d t) ∙ x.screen;
    }

-- conversely, if the tests hold in text, the text screen is shown
pub shown_of : (c : CardState) (d : BiosData) (row : ModeRow) → mode_row_at_height d.mode d.height ≡ Some row → Tests row c d → shown c d ≡ Some (text_screen row c d)
shown_of c d row e t = shown_by_row c d row e (all_of row c d t) ∙ ap (λ (x : Screen). Some x) (screen_is_text row c d t.is_text)

-- ---- any mode

-- a shown screen has the mode of the data, and a mode is set
pub record HasMode (d : BiosData) (s : Screen) : Type 0 where
  pub is : s.mode ≡ d.mode
  pub set : (d.mode == 0) ≡ false

pub mode_of_shown : (c : CardState) (d : BiosData) (s : Screen) → shown c d ≡ Some s → HasMode d s
mode_of_shown c d s h =
    let x = row_shown c d s h in
    record { is = ap (λ (y : Screen). y.mode) (sym x.screen) ∙ by_kind (is_text d.mode) x.row; set = not_0 (d.mode == 0) x.row refl x.mode }
  where
    by_kind : (b : Bool) (row : ModeRow) → (let x : Screen = (if b then text_screen row c d else pixel_screen row c d) in x).mode ≡ d.mode
    by_kind true row = refl
    by_kind false row = refl

    not_0 : (b : Bool) (row : ModeRow) → (d.mode == 0) ≡ b → mode_row_at_height d.mode d.height ≡ Some row → (d.mode == 0) ≡ false
    not_0 true row e g = none_some row (sym (ap (λ m. mode_row_at_height m d.height) (same e)) ∙ g)
    not_0 false row e g = e

-- if the shown screen is text, so is the mode of the data
pub text_shown : (c : CardState) (d : BiosData) (s : Screen) → shown c d ≡ Some s → is_text s.mode ≡ true → is_text d.mode ≡ true
text_shown c d s h t = ap is_text (sym (mode_of_shown c d s h).is) ∙ t

-- the mode is of the text kind
pub kind_is : (c : CardState) (d : BiosData) → IsShown c d → kind_of d.mode ≡ Text
kind_is c d h = by_kind (kind_of d.mode) h.tests.is_text
  where
    by_kind : (k : Kind) → is_text_kind k ≡ true → k ≡ Text
    by_kind Text t = refl
    by_kind Planar t = absurd (cc)
    by_kind Packed t = absurd (cc)

-- mode control is the mode's, except for the blink bit
pub control_is : (c : CardState) (d : BiosData) (h : IsShown c d) → bit_and (slice_index c.attr.registers 0x10) 0xF7 ≡ control_of h.display
control_is c d h =
    let a = both_true (is_palette_shown c.attr) _ h.tests.attribute in
    let b = both_true (bit_and (slice_index c.attr.registers 0x10) 0xF7 == bit_and (slice_index h.row.attribute 0x10) 0xF7) _ a.1 in
    same b.0 ∙ ap (λ (r : ModeRow). bit_and (slice_index r.attribute 0x10) 0xF7) h.row_is ∙ control_by h.display
