-- What holds of every shown screen, in text and in graphics.
use Rattle.std.proofs.Common.{◌≡◌, ℕ, ◌+◌, ◌<◌, ◌≤◌, refl, sym, ap, subst, ◌∙◌, arith, Bool, true, false, List, [], Some}
use Rattle.std.specs.Prelude.{◌==◌, ◌&&◌, ◌*◌, ◌/◌, if◌then◌else◌, slice_index, bit_and}
use Rattle.std.specs.Str.{bytes_eq}
use Rattle.bios_screen.proofs.Prelude.{Four, is_palette_shown, CardState, crtc_port, ModeRow, mode_row_at_height, BiosData, is_text, page_count, start_address, Screen}
use Rattle.bios_screen.proofs.Prelude.{has_attribute_registers_of_mode, text_memory_cells, page_pixels, shown}
use Rattle.bios_screen.specs.Screen.{Contents, Cells, Pixels}
use Rattle.bios_screen.specs.Shown.{cells_in, glyph_bytes_in_plane_2, pixel_pages, crtc_registers_shown, screen_with_contents, screen_of}
use Rattle.bios_screen.proofs.Base.Tests.{both_true, same}
use Rattle.bios_screen.proofs.Base.Places.{half_start, ends_before}
use Rattle.bios_screen.proofs.Base.Setting.{Setting, setting}
use Rattle.bios_screen.proofs.Modes.TextModes.{text_blinks, port_by as text_port_by}
use Rattle.bios_screen.proofs.Shows.Screens.{AllTests, setting_by, shown_by_row, all_of, data_is, page_of, shown_is, screen_is_text}
use Rattle.bios_screen.proofs.Modes.Frames.{Blinks}
use Rattle.bios_screen.proofs.Modes.PixelModes.{page_begins}
use Rattle.bios_screen.proofs.Modes.AnyModes.{says_is}
use Rattle.bios_screen.proofs.Shows.Pixels.{screen_is_pixels, pixels_of_shown}

-- the data with another cursor type, other cursor positions, another page and its start
abbrev pub with_cursors : BiosData → ℕ → List ℕ → ℕ → ℕ → BiosData
with_cursors d type places page start = record d { cursor_type = type; cursor_places = places; page = page; start = start }

-- what is known of a shown screen in any mode; contents and glyphs depend on memory alone
pub record IsAny (c : CardState) (d : BiosData) : Type 0 where
  pub row : ModeRow
  pub mode : mode_row_at_height d.mode d.height ≡ Some row
  pub port : d.crtc_address ≡ crtc_port c.misc
  pub steady : Blinks row 0
  pub blinks : Blinks row 1
  pub columns : row.columns ≤ 80
  pub last_row : row.last_row < 255
  pub pages : row.pages ≤ 8
  pub starts : (page : ℕ) → page < row.pages → start_address d page < 65536
  pub few : is_text d.mode ≡ true → (page : ℕ) → page < row.pages → start_address d page ≤ 16384
  pub tests : AllTests row c d
  pub distance : ℕ
  pub contents : Four (List ℕ) → Contents
  pub glyphs : Four (List ℕ) → List ℕ
  pub screen : (y : CardState) (type : ℕ) (places : List ℕ) (page start : ℕ) → (let e = with_cursors d type places page start in
      screen_of row y e ≡ screen_with_contents row y e distance (contents y.host.memory) (glyphs y.host.memory))

abbrev pub any_screen : (c : CardState) (d : BiosData) → IsAny c d → (y : CardState) → Screen
any_screen c d h y = screen_with_contents h.row y d h.distance (h.contents y.host.memory) (h.glyphs y.host.memory)

-- the test holds in another state too, if its memory-cycle and CRT controller registers are the
-- same and its attribute controller passes
pub same_tests : (row : ModeRow) (c y : CardState) (d : BiosData) → setting y ≡ setting c → y.crtc.registers ≡ c.crtc.registers →
    has_attribute_registers_of_mode row y.attr ≡ true → AllTests row c d → AllTests row y d
same_tests row c y d s e a t = record {
  memory = ap (λ (x : Setting). (x.misc == row.misc) && (bytes_eq x.seq row.sequencer && bytes_eq x.gfx row.graphics)) s ∙ t.memory;
  data_test = t.data_test;
  crtc = e ∙ t.crtc ∙ ap (crtc_registers_shown row d) (sym e);
  attribute = a;
}

-- such a state shows the screen of its own memory and colours
pub any_shown : (c y : CardState) (d : BiosData) (h : IsAny c d) → setting y ≡ setting c → y.crtc.registers ≡ c.crtc.registers →
    has_attribute_registers_of_mode h.row y.attr ≡ true → shown y d ≡ Some (any_screen c d h y)
any_shown c y d h s e a = shown_by_row y d h.row h.mode (same_tests h.row c y d s e a h.tests)
    ∙ ap (λ (x : Screen). Some x) (h.screen y d.cursor_type d.cursor_places d.page d.start)

pub still_any : (c : CardState) (d : BiosData) (h : IsAny c d) → shown c d ≡ Some (any_screen c d h c)
still_any c d h = any_shown c c d h refl refl h.tests.attribute

-- mode control is the row's, except for the blink bit
pub any_control : (c : CardState) (d : BiosData) (h : IsAny c d) → bit_and (slice_index c.attr.registers 0x10) 0xF7
    ≡ bit_and (slice_index h.row.attribute 0x10) 0xF7
any_control c d h =
    let a = both_true (is_palette_shown c.attr) _ h.tests.attribute in
    same (both_true (bit_and (slice_index c.attr.registers 0x10) 0xF7 == bit_and (slice_index h.row.attribute 0x10) 0xF7) _ a.1).0

-- ---- what follows from a shown screen

pub record ShowsAny (c : CardState) (d : BiosData) (s : Screen) : Type 0 where
  pub is : IsAny c d
  pub screen : any_screen c d is c ≡ s

pub any_is : (c : CardState) (d : BiosData) (s : Screen) → shown c d ≡ Some s → ShowsAny c d s
any_is c d s h = by_kind (is_text d.mode) refl
  where
    by_kind : (b : Bool) → is_text d.mode ≡ b → ShowsAny c d s
    by_kind true t =
        let x = shown_is c d s t h in
        let y = x.is in
        let start_few : (page : ℕ) → page < y.row.pages → start_address d page ≤ 16384 = λ page lp.
        let at = ap (λ b. if b then d.size * page / 2 else d.size * page) t ∙ half_start d.size y.text.half page (y.has.size ∙ y.text.even) in
        let ends = ends_before y.text.half page y.row.pages lp in
        let memory = y.text.memory in
        omega arith in
        record {
          is = record {
            row = y.row;
            mode = y.mode;
            port = y.has.port ∙ y.text.port ∙ text_port_by y.display ∙ sym (ap (λ (x : Setting). crtc_port x.misc) y.setting);
            steady = subst (λ r. Blinks r 0) (sym y.row_is) (text_blinks y.display y.height).0;
            blinks = subst (λ r. Blinks r 1) (sym y.row_is) (text_blinks y.display y.height).1;
            columns = y.text.columns;
            last_row = y.text.last_row;
            pages = y.text.pages;
            starts = λ page lp. let few = start_few page lp in omega arith;
            few = λ u page lp. start_few page lp;
            tests = all_of y.row c d y.tests;
            distance = d.size / 2;
            contents = λ m. Cells (cells_in m.plane0 m.plane1 text_memory_cells);
            glyphs = λ m. glyph_bytes_in_plane_2 m.plane2 4096;
            screen = λ z type places page start. screen_is_text y.row z (with_cursors d type places page start) t;
          };
          screen = x.screen;
        }
    by_kind false t =
        let x = pixels_of_shown c d s t h in
        let y = x.is in
        let says = says_is d.mode d.height y.row t y.mode in
        record {
          is = record {
            row = y.row;
            mode = y.mode;
            port = y.has.port ∙ says.port ∙ sym (ap (λ (q : Setting). crtc_port q.misc) (setting_by y.row c y.tests.memory));
            steady = says.steady;
            blinks = says.blinks;
            columns = says.room.narrow;
            last_row = says.room.low;
            pages = says.room.few;
            starts = λ page lp. subst (λ n. n < 65536)
                (sym (ap (λ b. if b then d.size * page / 2 else d.size * page) t ∙ ap (λ n. n * page) y.has.size)) (page_begins y.row says.room page lp);
            few = λ u page lp. absurd (cc);
            tests = y.tests;
            distance = 0;
            contents = λ m. Pixels (pixel_pages d.mode m d.size (page_pixels d) y.row.pages);
            glyphs = λ m. [];
            screen = λ z type places page start. screen_is_pixels y.row z (with_cursors d type places page start) t;
          };
          screen = x.screen;
        }

-- the layout of a page is the data's, and the page shown is one of the mode's
pub record IsCut (d : BiosData) (s : Screen) : Type 0 where
  pub columns : s.layout.columns ≡ d.columns
  pub rows : s.layout.rows ≡ d.last_row + 1
  pub narrow : d.columns ≤ 80
  pub low : d.last_row + 1 ≤ 255
  pub page : s.page ≡ d.page
  pub active : d.page < page_count d

pub cut_is : (c : CardState) (d : BiosData) (s : Screen) → shown c d ≡ Some s → IsCut d s
cut_is c d s e =
    let x = any_is c d s e in
    let has = data_is x.is.row d x.is.tests.data_test in
    subst (IsCut d) x.screen (record {
      columns = refl;
      rows = refl;
      narrow = let a = has.columns in let b = x.is.columns in omega arith;
      low = let a = has.last_row in let b = x.is.last_row in omega arith;
      page = refl;
      active = page_of x.is.row d d.page x.is.mode has.page;
    })
