-- Loading glyphs in text: from a state that shows a screen to one that shows it with characters of
-- another height.
use Rattle.std.proofs.Common.{◌≡◌, ℕ, ◌+◌, ◌*◌, ◌/◌, ◌%◌, ◌<◌, ◌≤◌, refl, sym, ap, ◌∙◌, subst, arith, List, length, Some, Bool, true, false, if◌then◌else◌}
use Rattle.std.specs.Prelude.{slice_index, nat_le, nat_lt, ◌&&◌, replicate}
use Rattle.std.proofs.lemmas.Bool.Decides.{nat_tests}
use Rattle.vga_crtc.specs.Ports.{after_out as after_crtc}
use Rattle.bios_screen.proofs.Prelude.{IsCard, card_meaning, CardState, ModeRow, mode_row_at_height, BiosData, data_of_mode, AreBytes, FontSet, Plan, run, ◌>>◌}
use Rattle.bios_screen.proofs.Prelude.{start_address, Screen, is_palette_shown, crtc_registers, has_attribute_registers_of_mode, shown, list_by_function}
use Rattle.vga_card.specs.Port.{port_of as reached_by, crtc_port_of}
use Rattle.vga_card.specs.Cycles.{out_reached}
use Rattle.bios_modes.specs.declared.heights.TextRow.{TextRow}
use Rattle.bios_modes.specs.Heights.{with_text_row}
use Rattle.bios_modes.specs.Bounds.{AreFonts}
use Rattle.bios_modes.specs.Fonts.{glyph_row}
use Rattle.bios_services.specs.declared.glyph_load.GlyphLoad.{GlyphLoad}
use Rattle.bios_services.specs.Cycles.{write_crtc}
use Rattle.bios_services.specs.ModeSet.{write_glyphs_plan, write_font_plan}
use Rattle.bios_services.specs.Cursor.{write_crtc_word_plan, cursor_address}
use Rattle.bios_services.specs.Glyphs.{glyph_line}
use Rattle.bios_services.specs.GlyphLoads.{AreGlyphsThere, loaded_line, load_plan}
use Rattle.std.specs.Str.{bytes_eq}
use Rattle.std.specs.Prelude.{◌-◌, ◌==◌, bit_and, drop}
use Rattle.vga_attr.specs.Attr.{AttrState}
use Rattle.bios_screen.specs.Shown.{has_bios_data_of_mode, text_screen, glyph_byte_in_plane_2, glyph_bytes_in_plane_2}
use Rattle.bios_screen.specs.Loaded.{glyph_byte_after_load, load_at_height}
use Rattle.bios_screen.proofs.Base.Flat.{Edited, Turn}
use Rattle.bios_screen.proofs.Base.Plans.{then_runs}
use Rattle.bios_screen.proofs.Base.Lists.{same_from_0, length_listing, listed_at}
use Rattle.bios_services.proofs.CardLemmas.{plan_bounds}
use Rattle.bios_screen.proofs.Base.Setting.{Setting, setting, card_at}
use Rattle.bios_screen.proofs.Modes.TextModes.{Display, Height, window_of, port_of, text_setting, mode_row_of_display, row_with, lines_of, number_of}
use Rattle.bios_screen.proofs.Modes.TextModes.Display.{Colour, Monochrome}
use Rattle.bios_screen.proofs.Modes.TextModes.Height.{Eight, Fourteen, Sixteen}
use Rattle.bios_screen.proofs.Text.Glyphs.{glyph_setting, without_glyphs, IsLoading, glyphs_loaded}
use Rattle.bios_screen.proofs.Shows.Screens.{Tests, IsShown, screen_shown, shown_of, text_crtc}
use Rattle.bios_screen.proofs.Services.Cursors.{with_crtc}
use Rattle.bios_screen.proofs.Modes.TextFresh.{but_glyphs, font_is, glyphs_on, glyphs_off}

-- ---- the registers

-- an adapter with other sequencer and graphics registers, and the indexes that setting them leaves
abbrev pub through : CardState → Setting → CardState
through c s = record c { host = record c.host { seq = s.seq; gfx = s.gfx; seq_index = 4; gfx_index = 6 } }

-- the plan that sets the CRT controller registers which depend on the height
abbrev height_plan : ℕ → ModeRow → Plan (Unit {0})
height_plan port row =
    write_crtc port 0x09 (slice_index row.crtc 0x09) >> (write_crtc_word_plan port 0x0A row.cursor_type
    >> (write_crtc port 0x12 (slice_index row.crtc 0x12) >> (write_crtc port 0x14 (slice_index row.crtc 0x14)
    >> (write_crtc_word_plan port 0x0C 0 >> write_crtc_word_plan port 0x0E 0))))

height_by : (disp : Display) (new : Height) (old : TextRow) (c : CardState) (type start location : ℕ)
    → (run card_meaning (height_plan (port_of disp) (row_with disp new)) (card_at
    (with_crtc c (crtc_registers (with_text_row (mode_row_of_display disp) old) type start location) c.crtc.index) (text_setting disp))).0
    ≡ with_crtc (card_at c (text_setting disp)) (crtc_registers (row_with disp new) (row_with disp new).cursor_type 0 0) 0x0F
unfolding write_crtc_word_plan reached_by crtc_port_of out_reached after_crtc
height_by Colour Eight old c type start location = refl
height_by Colour Fourteen old c type start location = refl
height_by Colour Sixteen old c type start location = refl
height_by Monochrome Eight old c type start location = refl
height_by Monochrome Fourteen old c type start location = refl
height_by Monochrome Sixteen old c type start location = refl

-- the two parts of the plan
load_is : (fonts : FontSet) (load : GlyphLoad) (block : List ℕ) (row : ModeRow) (c : CardState)
    → (run card_meaning (load_plan fonts load block row) c).0 ≡ (run card_meaning (height_plan row.crtc_address row)
    (run card_meaning (write_font_plan (loaded_line fonts load block) load.height load.count load.first (slice_index row.graphics 6)) c).0).0
unfolding load_plan
load_is fonts load block row c = then_runs (write_font_plan (loaded_line fonts load block) load.height load.count load.first (slice_index row.graphics 6))
    (height_plan row.crtc_address row) c

-- ---- the glyphs

-- the lines of the loaded glyphs replace the old ones
abbrev pub AreLoaded : FontSet → GlyphLoad → List ℕ → (ℕ → ℕ) → (ℕ → ℕ) → Type 0
AreLoaded fonts load block old new = Edited ℕ (Turn (λ _. Turn (λ _. Unit {0}) 0 load.height) load.first (load.first + load.count)) (λ h.
    32 * h.turn + h.place.turn) (λ h x. loaded_line fonts load block h.turn h.place.turn) old new

-- a byte of the glyphs is the new one if it was loaded, else the old one
glyph_is : (fonts : FontSet) (load : GlyphLoad) (block : List ℕ) (old new : ℕ → ℕ) (i : ℕ) → load.height ≤ 16 → AreLoaded fonts load block old new
    → new (32 * (i / 16) + i % 16) ≡ glyph_byte_after_load fonts load block (λ k. old (32 * (k / 16) + k % 16)) i
glyph_is fonts load block old new i few edited =
    by_test (nat_le load.first (i / 16)) (nat_lt (i / 16) (load.first + load.count)) (nat_lt (i % 16) load.height) refl refl refl
  where
    by_test : (a b e : Bool) → nat_le load.first (i / 16) ≡ a → nat_lt (i / 16) (load.first + load.count) ≡ b → nat_lt (i % 16) load.height ≡ e
        → new (32 * (i / 16) + i % 16) ≡ (if a && (b && e) then loaded_line fonts load block (i / 16) (i % 16) else old (32 * (i / 16) + i % 16))
    by_test true true true ea eb ee = edited.inside (record {
      turn = i / 16;
      from = grind (arith, nat_tests);
      before = grind (arith, nat_tests);
      place = record { turn = i % 16; from = omega arith; before = grind (arith, nat_tests); place = tt };
    })
    by_test false b e ea eb ee = edited.outside (32 * (i / 16) + i % 16) (λ h q. let x = h.from in let y = h.place.before in grind (arith, nat_tests))
    by_test true false e ea eb ee = edited.outside (32 * (i / 16) + i % 16) (λ h q. let x = h.before in let y = h.place.before in grind (arith, nat_tests))
    by_test true true false ea eb ee = edited.outside (32 * (i / 16) + i % 16) (λ h q. let y = h.place.before in grind (arith, nat_tests))

-- so are all bytes of the glyphs
glyphs_are : (fonts : FontSet) (load : GlyphLoad) (block old new : List ℕ) (cells : ℕ → ℕ) → load.height ≤ 16 →
    AreLoaded fonts load block (slice_index old) cells → ((o : ℕ) → o < 65536 → slice_index new o ≡ cells o)
    → glyph_bytes_in_plane_2 new 4096 ≡ list_by_function (glyph_byte_after_load fonts load block (slice_index (glyph_bytes_in_plane_2 old 4096))) 0 (length (glyph_bytes_in_plane_2 old 4096))
unfolding glyph_bytes_in_plane_2
glyphs_are fonts load block old new cells few edited row =
    same_from_0 (glyph_byte_after_load fonts load block (slice_index (list_by_function (glyph_byte_in_plane_2 old) 0 4096))) (glyph_byte_in_plane_2 new) 4096 (λ i l.
    row (32 * (i / 16) + i % 16) (omega arith)
    ∙ glyph_is fonts load block (slice_index old) cells i few edited
    ∙ ap (λ x. if nat_le load.first (i / 16) && (nat_lt (i / 16) (load.first + load.count) && nat_lt (i % 16) load.height)
    then loaded_line fonts load block (i / 16) (i % 16) else x) (sym (listed_at (glyph_byte_in_plane_2 old) 4096 i 0 l)))
    ∙ ap (list_by_function (glyph_byte_after_load fonts load block (slice_index (list_by_function (glyph_byte_in_plane_2 old) 0 4096))) 0) (sym (length_listing (glyph_byte_in_plane_2 old) 0 4096))

-- ---- what the plan leaves

-- an adapter in text again, with other glyphs and other CRT controller registers
abbrev pub left : Display → CardState → List ℕ → List ℕ → CardState
left disp c glyphs registers = with_crtc (through (record c { host = record c.host { memory = record c.host.memory { plane2 = glyphs } } }) (text_setting disp))
    registers 0x0F

-- two plans, computed for a display: one reaches the glyphs, the other reaches text again
record ReachesGlyphs (disp : Display) : Type 0 where
  on : (c : CardState) → (run card_meaning glyphs_on (card_at c (text_setting disp))).0 ≡ through (card_at c (text_setting disp)) (glyph_setting disp)
  off : (c : CardState) → (run card_meaning (glyphs_off (window_of disp)) (card_at c (glyph_setting disp))).0
      ≡ through (card_at c (glyph_setting disp)) (text_setting disp)
  window : slice_index (mode_row_of_display disp).graphics 6 ≡ window_of disp
  port : (mode_row_of_display disp).crtc_address ≡ port_of disp
  memory : (let s = text_setting disp in let row = mode_row_of_display disp in (s.misc == row.misc) && (bytes_eq s.seq row.sequencer && bytes_eq s.gfx row.graphics)) ≡ true

reaches_glyphs : (disp : Display) → ReachesGlyphs disp
unfolding reached_by out_reached
reaches_glyphs Colour = record { on = λ c. refl; off = λ c. refl; window = refl; port = refl; memory = refl }
reaches_glyphs Monochrome = record { on = λ c. refl; off = λ c. refl; window = refl; port = refl; memory = refl }

-- the adapter after a load, and its glyphs
pub record IsLoadedCard (fonts : FontSet) (load : GlyphLoad) (block : List ℕ) (disp : Display) (row : ModeRow) (c y : CardState) : Type 0 where
  pub plane2 : List ℕ
  pub cells : ℕ → ℕ
  pub glyphs : AreLoaded fonts load block (slice_index c.host.memory.plane2) cells
  pub byte : (o : ℕ) → o < 65536 → slice_index plane2 o ≡ cells o
  pub is : y ≡ left disp c plane2 (crtc_registers row row.cursor_type 0 0)

line_small : (fonts : FontSet) (load : GlyphLoad) (block : List ℕ) → AreBytes block → AreFonts fonts → (ch r : ℕ) → loaded_line fonts load block ch r < 256
line_small fonts load block bytes are ch r = by_source load.is_block
  where
    by_height : (a b : Bool) → (if a then glyph_row 8 fonts.f8 ch r else if b then glyph_row 14 fonts.f14 ch r else glyph_row 16 fonts.f16 ch r) < 256
    by_height true b = are.f8 (8 * ch + r)
    by_height false true = are.f14 (14 * ch + r)
    by_height false false = are.f16 (16 * ch + r)

    by_source : (k : Bool) → (if k then slice_index block (load.height * (ch - load.first) + r) else glyph_line fonts load.height ch r) < 256
    by_source true = bytes (load.height * (ch - load.first) + r)
    by_source false = by_height (load.height == 8) (load.height == 14)

module _ (fonts : FontSet) (load : GlyphLoad) (block : List ℕ) (bytes : AreBytes block) (are : AreFonts fonts)
    (there : AreGlyphsThere load (length block)) (c : CardState) (d : BiosData) (h : IsShown c d) (z : IsCard c) (new : Height) where
  abbrev pub disp : Display
  disp = h.display

  abbrev line : ℕ → ℕ → ℕ
  line = loaded_line fonts load block

  abbrev pub row : ModeRow
  row = row_with disp new

  pub loaded_card : IsLoadedCard fonts load block disp row c (run card_meaning (load_plan fonts load block row) c).0
  loaded_card =
      let loading = write_glyphs_plan line load.height load.count load.first in
      let window = slice_index row.graphics 6 in
      let c1 = through c (glyph_setting disp) in
      let e1 : (run card_meaning glyphs_on c).0 ≡ c1 =
      ap (λ x. (run card_meaning glyphs_on (card_at c x)).0) h.setting
      ∙ (reaches_glyphs disp).on c
      ∙ ap (λ x. through (card_at c x) (glyph_setting disp)) (sym h.setting) in
      let z1 : IsCard c1 = subst IsCard e1 (plan_bounds glyphs_on c z) in
      let at1 : setting c1 ≡ glyph_setting disp = ap (λ (x : Setting). let q : Setting =
      record { misc = x.misc; seq = (glyph_setting disp).seq; gfx = (glyph_setting disp).gfx } in q) h.setting in
      let start : IsLoading disp (without_glyphs c1) c1 (slice_index c1.host.memory.plane2) =
      record { mode = at1; size2 = z1.host.memory.size 2 (omega arith); row = λ o l. refl; others = refl } in
      let loaded = glyphs_loaded disp (without_glyphs c1) c1 (slice_index c1.host.memory.plane2) line load.height load.count load.first there.last there.height
      (line_small fonts load block bytes are) start in
      let s2 = (run card_meaning loading c1).0 in
      let l2 = s2.host.memory.plane2 in
      let c2 : CardState = record c1 { host = record c1.host { memory = record c1.host.memory { plane2 = l2 } } } in
      let e2 : s2 ≡ c2 = but_glyphs s2 c1 loaded.shown.others in
      let c3 = through c2 (text_setting disp) in
      let e3 : (run card_meaning (glyphs_off window) c2).0 ≡ c3 =
      ap (λ w. (run card_meaning (glyphs_off w) c2).0) (reaches_glyphs disp).window
      ∙ ap (λ x. (run card_meaning (glyphs_off (window_of disp)) (card_at c2 x)).0) at1
      ∙ (reaches_glyphs disp).off c2
      ∙ ap (λ x. through (card_at c2 x) (text_setting disp)) (sym at1) in
      let at3 : setting c3 ≡ text_setting disp = ap (λ (x : Setting). let q : Setting =
      record { misc = x.misc; seq = (text_setting disp).seq; gfx = (text_setting disp).gfx } in q) h.setting in
      let registers : c3.crtc.registers ≡ crtc_registers (with_text_row (mode_row_of_display disp) (lines_of disp h.height)) d.cursor_type (start_address d d.page)
      (cursor_address d d.page) =
      h.tests.crtc ∙ ap (λ r. crtc_registers r d.cursor_type (start_address d d.page) (cursor_address d d.page)) h.row_is in
      let plan = height_plan row.crtc_address row in
      let e4 : (run card_meaning plan c3).0 ≡ with_crtc c3 (crtc_registers row row.cursor_type 0 0) 0x0F =
      ap (λ port. (run card_meaning (height_plan port row) c3).0) (reaches_glyphs disp).port
      ∙ ap (λ x. (run card_meaning (height_plan (port_of disp) row) (card_at c3 x)).0) at3
      ∙ ap (λ x. (run card_meaning (height_plan (port_of disp) row) (card_at (with_crtc c3 x c3.crtc.index) (text_setting disp))).0) registers
      ∙ height_by disp new (lines_of disp h.height) c3 d.cursor_type (start_address d d.page) (cursor_address d d.page)
      ∙ ap (λ x. with_crtc (card_at c3 x) (crtc_registers row row.cursor_type 0 0) 0x0F) (sym at3) in
      let fonted : (run card_meaning (write_font_plan line load.height load.count load.first window) c).0 ≡ c3 =
      font_is line load.height load.count load.first window c ∙ then_runs glyphs_on (loading >> glyphs_off window) c
      ∙ ap (λ x. (run card_meaning (loading >> glyphs_off window) x).0) e1
      ∙ then_runs loading (glyphs_off window) c1
      ∙ ap (λ x. (run card_meaning (glyphs_off window) x).0) e2
      ∙ e3 in
      record {
        plane2 = l2;
        cells = loaded.cells;
        glyphs = loaded.fact;
        byte = loaded.shown.row;
        is = load_is fonts load block row c ∙ ap (λ x. (run card_meaning plan x).0) fonted ∙ e4;
      }

-- ---- the screen

-- the row of a display at a height is the mode's, and passes the test with its own data; by cases
record IsOwn (disp : Display) (new : Height) : Type 0 where
  row_is : mode_row_at_height (number_of disp) (row_with disp new).height ≡ Some (row_with disp new)
  data_test : (mode : ℕ) → has_bios_data_of_mode (row_with disp new) (data_of_mode mode (row_with disp new)) ≡ true
  crtc : crtc_registers (row_with disp new) (row_with disp new).cursor_type 0 0
      ≡ text_crtc (row_with disp new) (data_of_mode (number_of disp) (row_with disp new))

own_by : (disp : Display) (new : Height) → IsOwn disp new
own_by Colour Eight = record { row_is = refl; data_test = λ _. refl; crtc = refl }
own_by Colour Fourteen = record { row_is = refl; data_test = λ _. refl; crtc = refl }
own_by Colour Sixteen = record { row_is = refl; data_test = λ _. refl; crtc = refl }
own_by Monochrome Eight = record { row_is = refl; data_test = λ _. refl; crtc = refl }
own_by Monochrome Fourteen = record { row_is = refl; data_test = λ _. refl; crtc = refl }
own_by Monochrome Sixteen = record { row_is = refl; data_test = λ _. refl; crtc = refl }

-- the test of the attribute controller depends only on the row's attribute registers
attribute_stays : (old new : ModeRow) (a : AttrState) → old.attribute ≡ new.attribute → has_attribute_registers_of_mode old a ≡ true → has_attribute_registers_of_mode new a ≡ true
attribute_stays old new a e t =
    sym (ap (λ (l : List ℕ). is_palette_shown a && ((bit_and (slice_index a.registers 0x10) 0xF7 == bit_and (slice_index l 0x10) 0xF7)
    && bytes_eq (drop 0x12 a.registers) (drop 0x12 l))) e) ∙ t

pub load_shown : (fonts : FontSet) (load : GlyphLoad) (block : List ℕ) → AreBytes block → AreFonts fonts → AreGlyphsThere load (length block) →
    (c : CardState) (d : BiosData) (h : IsShown c d) → IsCard c → (new : Height)
    → (let row = row_with h.display new in shown (run card_meaning (load_plan fonts load block row) c).0 (data_of_mode d.mode row)
    ≡ Some (load_at_height (Some (lines_of h.display new)) fonts (screen_shown c d h) load block))
load_shown fonts load block bytes are there c d h z new =
    let disp = h.display in
    let row = row_with disp new in
    let t = loaded_card fonts load block bytes are there c d h z new in
    let registers = crtc_registers row row.cursor_type 0 0 in
    let y = left disp c t.plane2 registers in
    let after : BiosData = data_of_mode d.mode row in
    let s = screen_shown c d h in
    let set : setting y ≡ text_setting disp = ap (λ (x : Setting). let q : Setting =
    record { misc = x.misc; seq = (text_setting disp).seq; gfx = (text_setting disp).gfx } in q) h.setting in
    let by = own_by disp new in
    let own : mode_row_at_height d.mode row.height ≡ Some row = ap (λ m. mode_row_at_height m row.height) h.number ∙ by.row_is in
    let tests : Tests row y after = record {
      is_text = h.tests.is_text;
      memory = ap (λ (x : Setting). (x.misc == row.misc) && (bytes_eq x.seq row.sequencer && bytes_eq x.gfx row.graphics)) set ∙ (reaches_glyphs disp).memory;
      data_test = by.data_test d.mode;
      crtc = by.crtc ∙ sym (ap (λ m. text_crtc row (data_of_mode m row)) h.number);
      attribute = attribute_stays h.row row c.attr (ap (λ (r : ModeRow). r.attribute) h.row_is) h.tests.attribute;
    } in
    let columns : row.columns ≡ d.columns = sym (h.has.columns ∙ ap (λ (r : ModeRow). r.columns) h.row_is) in
    ap (λ x. shown x after) t.is
    ∙ shown_of y after row own tests
    ∙ ap (λ g. let x : Screen = record (text_screen row y after) { glyphs = g } in Some x)
    (glyphs_are fonts load block c.host.memory.plane2 t.plane2 t.cells there.height t.glyphs t.byte)
    ∙ ap (λ n. let x : Screen = record s {
      layout = record {
        columns = n;
        rows = row.last_row + 1;
        height = row.height;
        distance = row.size / 2;
        pages = row.pages;
      };
      places = replicate 8 0;
      cursor_type = row.cursor_type;
      page = 0;
      glyphs = list_by_function (glyph_byte_after_load fonts load block (slice_index s.glyphs)) 0 (length s.glyphs);
    } in Some x) columns
