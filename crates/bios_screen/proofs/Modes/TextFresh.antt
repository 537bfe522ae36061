-- A clearing mode set to text: from any state to one that shows the fresh screen.
use Rattle.std.proofs.Common.{◌≡◌, ℕ, ◌+◌, ◌*◌, ◌/◌, ◌%◌, ◌<◌, ◌≤◌, refl, sym, ap, ◌∙◌, subst, arith, List, Some, None, true, false}
use Rattle.std.specs.Prelude.{slice_index, if◌then◌else◌}
use Rattle.std.proofs.lemmas.Bool.Decides.{nat_tests}
use Rattle.vga_crtc.specs.Ports.{after_out as after_crtc}
use Rattle.vga_crtc.specs.Fields.{is_protected, overflow}
use Rattle.bios_screen.proofs.Prelude.{DacState, IsCard, card_meaning, CardState, mode_row_at_height, AreBytes, data_of_mode, Plan, run, put, ◌>>◌, write_graphics, Cell, Screen}
use Rattle.bios_screen.proofs.Prelude.{cell_in, text_memory_cells, shown}
use Rattle.vga_card.specs.Port.{port_of as reached_by, crtc_port_of}
use Rattle.vga_card.specs.Cycles.{out_reached, inp_reached}
use Rattle.bios_modes.specs.Fonts.{glyph_row}
use Rattle.bios_services.specs.Cycles.{write_sequencer, write_registers_from_0, write_attribute_registers}
use Rattle.bios_services.specs.ModeSet.{write_registers_plan, write_glyphs_plan, write_font_plan, byte_of_blank_cells, write_blanks_plan, write_text_memory_plan, write_mode_memory_plan, mode_set_plan}
use Rattle.bios_screen.specs.Screen.{Palette}
use Rattle.bios_screen.specs.Shown.{cells_in, glyph_byte_in_plane_2, glyph_bytes_in_plane_2, shows, text_screen_with_cells, screen_of, screen_shown_in_mode}
use Rattle.bios_screen.specs.Fresh.{fresh_cells, first_bytes_of_font, fresh_text, fresh_pixels}
use Rattle.bios_screen.specs.AfterCall.{ModeSetShowsFreshScreen}
use Rattle.bios_screen.proofs.Shows.Screens.{screen_is_text}
use Rattle.bios_screen.proofs.Base.Flat.{Edited, Turn, Leaves, set_cell}
use Rattle.bios_screen.proofs.Base.Plans.{then_runs}
use Rattle.bios_screen.proofs.Base.Edits.{one_edit, edits}
use Rattle.bios_screen.proofs.Base.Lists.{same_from_0, blank_listing}
use Rattle.bios_services.proofs.CardLemmas.{plan_bounds}
use Rattle.bios_screen.proofs.Base.Setting.{setting}
use Rattle.bios_screen.proofs.Modes.TextModes.{Display, base_of, text_setting, mode_row_of_display, number_of, text_by}
use Rattle.bios_screen.proofs.Modes.TextModes.Display.{Colour, Monochrome}
use Rattle.bios_screen.proofs.Text.Memory.{IsTextual, without_text, text_put}
use Rattle.bios_screen.proofs.Text.Cells.{has_cells}
use Rattle.bios_screen.proofs.Text.NewCells.{test_stays}
use Rattle.bios_screen.proofs.Modes.Registers.{IsSet}
use Rattle.bios_screen.proofs.Modes.Fresh.{palette_is, coloured, prepared, ShowsFresh, sets_fresh}
use Rattle.bios_screen.proofs.Text.Glyphs.{glyph_setting, without_glyphs, IsLoading, glyphs_loaded}

-- ---- text memory is cleared

blank_small : (w : ℕ) → byte_of_blank_cells w < 256
blank_small w = grind (arith, nat_tests)

even_blank : (q : ℕ) → byte_of_blank_cells (2 * q) ≡ 0x20
even_blank q = grind (arith, nat_tests)

odd_blank : (q : ℕ) → byte_of_blank_cells (2 * q + 1) ≡ 0x07
odd_blank q = grind (arith, nat_tests)

blanked : (disp : Display) (rest c : CardState) (m : ℕ → ℕ) (n : ℕ) → n ≤ 32768 → IsTextual disp rest c m →
    Leaves CardState ℕ (IsTextual disp rest) (run card_meaning (write_blanks_plan (base_of disp) n) c).0
    (Edited ℕ (Turn (λ _. Unit {0}) 0 n) (λ h. h.turn) (λ h x. byte_of_blank_cells h.turn) m)
unfolding write_blanks_plan
blanked disp rest c m n l t =
    edits CardState ℕ card_meaning (λ w. put (base_of disp + w) (byte_of_blank_cells w)) (λ _. IsTextual disp rest) 0 n (λ _. Unit {0}) (λ r h. r) (λ r h x.
    byte_of_blank_cells r) (λ j k a b lb lo hi q. absurd (omega arith))
    (λ r s x lb w t. record {
      cells = set_cell x r (byte_of_blank_cells r);
      shown = text_put disp rest s x r (byte_of_blank_cells r) (omega arith) (blank_small r) t;
      fact = one_edit r (byte_of_blank_cells r) x;
    })
    n 0 c m (omega arith) (omega arith) t

-- if x and y differ only in glyphs, x is y with the glyphs of x
pub but_glyphs : (x y : CardState) → without_glyphs x ≡ without_glyphs y → x ≡ record y {
  host =
      record y.host { memory = record y.host.memory { plane2 = x.host.memory.plane2 } };
}
but_glyphs x y e = ap (λ s. let r : CardState = record s { host = record s.host { memory = record s.host.memory { plane2 = x.host.memory.plane2 } } } in r) e

-- ---- lists

glyphs_same : (plane2 font : List ℕ) (n : ℕ) → ((i : ℕ) → i < n → glyph_byte_in_plane_2 plane2 i ≡ slice_index font i) → glyph_bytes_in_plane_2 plane2 n ≡ first_bytes_of_font font n
unfolding glyph_bytes_in_plane_2 first_bytes_of_font
glyphs_same plane2 font n h = same_from_0 (slice_index font) (glyph_byte_in_plane_2 plane2) n h

cells_blank : (p0 p1 : List ℕ) (n : ℕ) → ((k : ℕ) → k < n → cell_in p0 p1 k ≡ (0x20, 0x07)) → cells_in p0 p1 n ≡ fresh_cells n
unfolding cells_in fresh_cells
cells_blank p0 p1 n h = blank_listing (cell_in p0 p1) (0x20, 0x07) 0 n (λ k l. let z : 0 + k ≡ k = omega arith in ap (cell_in p0 p1) z ∙ h k l)

-- ---- one text mode

abbrev pub glyphs_on : Plan (Unit {0})
glyphs_on = write_sequencer 2 0x04 >> (write_sequencer 4 0x06 >> (write_graphics 5 0x00 >> write_graphics 6 0x04))

abbrev pub glyphs_off : ℕ → Plan (Unit {0})
glyphs_off window = write_sequencer 2 0x03 >> (write_sequencer 4 0x02 >> (write_graphics 5 0x10 >> write_graphics 6 window))

abbrev in_glyphs : Display → CardState → CardState
in_glyphs disp c = record c { host = record c.host { seq = (glyph_setting disp).seq; gfx = (glyph_setting disp).gfx; seq_index = 4; gfx_index = 6 } }

abbrev in_text : Display → CardState → CardState
in_text disp c = record c { host = record c.host { seq = (mode_row_of_display disp).sequencer; gfx = (mode_row_of_display disp).graphics; seq_index = 4; gfx_index = 6 } }

abbrev with_glyphs : CardState → List ℕ → CardState
with_glyphs c l = record c { host = record c.host { memory = record c.host.memory { plane2 = l } } }

on_is : (disp : Display) (c : CardState) (d : DacState) → (run card_meaning glyphs_on (coloured (mode_row_of_display disp) c d)).0
    ≡ in_glyphs disp (coloured (mode_row_of_display disp) c d)
unfolding reached_by out_reached
on_is Colour c d = refl
on_is Monochrome c d = refl

off_is : (disp : Display) (c : CardState) (d : DacState) (l : List ℕ) → (run card_meaning (glyphs_off (slice_index (mode_row_of_display disp).graphics 6))
    (with_glyphs (in_glyphs disp (coloured (mode_row_of_display disp) c d)) l)).0 ≡ in_text disp (with_glyphs (in_glyphs disp (coloured (mode_row_of_display disp) c d)) l)
unfolding reached_by out_reached
off_is Colour c d l = refl
off_is Monochrome c d l = refl

-- the test, computed from literals
test_is : (disp : Display) (c : CardState) (d : DacState) (l : List ℕ) →
    shows (mode_row_of_display disp) (in_text disp (with_glyphs (in_glyphs disp (coloured (mode_row_of_display disp) c d)) l)) (data_of_mode (number_of disp) (mode_row_of_display disp)) ≡ true
unfolding shows
test_is Colour c d l = refl
test_is Monochrome c d l = refl

row_is : (disp : Display) → mode_row_at_height (number_of disp) (mode_row_of_display disp).height ≡ Some (mode_row_of_display disp)
row_is Colour = refl
row_is Monochrome = refl

text_setting_is : (disp : Display) (c : CardState) (d : DacState) (l : List ℕ) →
    setting (in_text disp (with_glyphs (in_glyphs disp (coloured (mode_row_of_display disp) c d)) l)) ≡ text_setting disp
text_setting_is Colour c d l = refl
text_setting_is Monochrome c d l = refl

glyph_setting_is : (disp : Display) (c : CardState) (d : DacState) → setting (in_glyphs disp (coloured (mode_row_of_display disp) c d)) ≡ glyph_setting disp
glyph_setting_is Colour c d = refl
glyph_setting_is Monochrome c d = refl

pub font_is : (line : ℕ → ℕ → ℕ) (height n first window : ℕ) (c : CardState) → (run card_meaning (write_font_plan line height n first window) c).0
    ≡ (run card_meaning (glyphs_on >> (write_glyphs_plan line height n first >> glyphs_off window)) c).0
unfolding write_font_plan
font_is line height n first window c = refl

memory_is : (disp : Display) (font : List ℕ) (c : CardState) → (run card_meaning (write_mode_memory_plan (mode_row_of_display disp) false font) c).0
    ≡ (run card_meaning (write_blanks_plan (base_of disp) 0x8000) (run card_meaning (write_font_plan (glyph_row 16 font) 16 256 0 (slice_index (mode_row_of_display disp).graphics 6))
    c).0).0
unfolding write_mode_memory_plan write_text_memory_plan
memory_is Colour font c = then_runs (write_font_plan (glyph_row 16 font) 16 256 0 0x0E) (write_blanks_plan 0xB8000 0x8000) c
memory_is Monochrome font c = then_runs (write_font_plan (glyph_row 16 font) 16 256 0 0x0A) (write_blanks_plan 0xB0000 0x8000) c

-- the memory after a mode set: glyphs, cells and all else
record FreshMemory (disp : Display) (font : List ℕ) (y s : CardState) : Type 0 where
  plane2 : List ℕ
  others : without_text s ≡ without_text (in_text disp (with_glyphs (in_glyphs disp y) plane2))
  glyphs : glyph_bytes_in_plane_2 plane2 4096 ≡ first_bytes_of_font font 4096
  cells : cells_in s.host.memory.plane0 s.host.memory.plane1 text_memory_cells ≡ fresh_cells text_memory_cells

fresh_memory : (disp : Display) (c : CardState) (d : DacState) (font : List ℕ) → IsCard (coloured (mode_row_of_display disp) c d) → AreBytes font →
    FreshMemory disp font (coloured (mode_row_of_display disp) c d)
    (run card_meaning (write_mode_memory_plan (mode_row_of_display disp) false font) (coloured (mode_row_of_display disp) c d)).0
fresh_memory disp c d font z2 small =
    let window = slice_index (mode_row_of_display disp).graphics 6 in
    let y2 = coloured (mode_row_of_display disp) c d in
    let y3 = in_glyphs disp y2 in
    let z3 : IsCard y3 = subst IsCard (on_is disp c d) (plan_bounds glyphs_on y2 z2) in
    let load = write_glyphs_plan (glyph_row 16 font) 16 256 0 in
    let s4 = (run card_meaning load y3).0 in
    let loading : IsLoading disp (without_glyphs y3) y3 (slice_index y3.host.memory.plane2) =
    record { mode = glyph_setting_is disp c d; size2 = z3.host.memory.size 2 (omega arith); row = λ o l. refl; others = refl } in
    let loaded = glyphs_loaded disp (without_glyphs y3) y3 (slice_index y3.host.memory.plane2) (glyph_row 16 font) 16 256 0 (omega arith) (omega arith) (λ ch r.
    small (16 * ch + r)) loading in
    let l4 = s4.host.memory.plane2 in
    let y4 = with_glyphs y3 l4 in
    let e4 : s4 ≡ y4 = but_glyphs s4 y3 loaded.shown.others in
    let z4 : IsCard y4 = subst IsCard e4 (plan_bounds load y3 z3) in
    let y5 = in_text disp y4 in
    let z5 : IsCard y5 = subst IsCard (off_is disp c d l4) (plan_bounds (glyphs_off window) y4 z4) in
    let blank = write_blanks_plan (base_of disp) 0x8000 in
    let s6 = (run card_meaning blank y5).0 in
    let cells = has_cells disp y5 (text_setting_is disp c d l4) z5.host in
    let done = blanked disp (without_text y5) y5 cells.bytes 0x8000 (omega arith) cells.is in
    let fonted : (run card_meaning (write_font_plan (glyph_row 16 font) 16 256 0 window) y2).0 ≡ y5 =
    font_is (glyph_row 16 font) 16 256 0 window y2 ∙ then_runs glyphs_on (load >> glyphs_off window) y2
    ∙ ap (λ x. (run card_meaning (load >> glyphs_off window) x).0) (on_is disp c d)
    ∙ then_runs load (glyphs_off window) y3
    ∙ ap (λ x. (run card_meaning (glyphs_off window) x).0) e4
    ∙ off_is disp c d l4 in
    let whole : (run card_meaning (write_mode_memory_plan (mode_row_of_display disp) false font) y2).0 ≡ s6 = memory_is disp font y2
    ∙ ap (λ x. (run card_meaning blank x).0) fonted in
    let state : FreshMemory disp font y2 s6 = record {
      plane2 = l4;
      others = done.shown.others;
      glyphs = glyphs_same l4 font 4096 (λ i l.
          let ch = i / 16 in
          let r = i % 16 in
          let e : 16 * ch + r ≡ i = omega arith in
          loaded.shown.row (32 * ch + r) (omega arith) ∙ loaded.fact.inside (record {
            turn = ch;
            from = omega arith;
            before = omega arith;
            place = record { turn = r; from = omega arith; before = omega arith; place = tt };
          }) ∙ ap (slice_index font) e);
      cells = cells_blank s6.host.memory.plane0 s6.host.memory.plane1 text_memory_cells (λ q l.
          let x : slice_index s6.host.memory.plane0 (2 * q) ≡ 0x20 = done.shown.character q l
          ∙ done.fact.inside (record { turn = 2 * q; from = omega arith; before = omega arith; place = tt }) ∙ even_blank q in
          let y : slice_index s6.host.memory.plane1 (2 * q) ≡ 0x07 = done.shown.attribute q l
          ∙ done.fact.inside (record { turn = 2 * q + 1; from = omega arith; before = omega arith; place = tt }) ∙ odd_blank q in
          ap (λ a. let p : Cell = (a, slice_index s6.host.memory.plane1 (2 * q)) in p) x ∙ ap (λ b. let p : Cell = (0x20, b) in p) y);
    } in
    subst (FreshMemory disp font y2) (sym whole) state

pub set_by : (disp : Display) → IsSet (number_of disp) (mode_row_of_display disp)
unfolding write_registers_plan write_registers_from_0 write_attribute_registers reached_by crtc_port_of out_reached inp_reached after_crtc is_protected overflow
set_by Colour = record { table = refl; literal = λ _. refl }
set_by Monochrome = record { table = refl; literal = λ _. refl }

shows_fresh : (disp : Display) → ShowsFresh (number_of disp) (mode_row_of_display disp)
unfolding mode_set_plan
shows_fresh disp c fonts z small =
    let mode = number_of disp in
    let row = mode_row_of_display disp in
    let font = fonts.f16 in
    let d = data_of_mode mode row in
    let first = prepared mode row c (set_by disp) z in
    let t = fresh_memory disp c first.dac font first.bounds small in
    let s = (run card_meaning (write_mode_memory_plan row false font) (coloured row c first.dac)).0 in
    let y = in_text disp (with_glyphs (in_glyphs disp (coloured row c first.dac)) t.plane2) in
    let new = fresh_text mode row font c.crtc.beam.frame in
    let pixels = fresh_pixels mode row c.crtc.beam.frame in
    let blank = fresh_cells text_memory_cells in
    ap (λ x. shown x d) (first.runs (write_mode_memory_plan row false font))
    ∙ ap (λ x. screen_shown_in_mode x s d) (row_is disp)
    ∙ ap (λ b. if b then Some (screen_of row s d) else None) (test_stays row y s d t.others ∙ test_is disp c first.dac t.plane2)
    ∙ ap (λ (x : Screen). Some x) (screen_is_text row s d (text_by disp))
    ∙ ap (λ k. Some (text_screen_with_cells row s d k)) t.cells
    ∙ ap (λ x. Some (text_screen_with_cells row x d blank)) t.others
    ∙ ap (λ (k : Palette). let x : Screen = record new { palette = k; glyphs = glyph_bytes_in_plane_2 t.plane2 4096 } in Some x)
    (palette_is row c first.dac first.colours)
    ∙ ap (λ k. let x : Screen = record new { glyphs = k } in Some x) t.glyphs
    ∙ sym (ap (λ b. let x : Screen = (if b then new else pixels) in Some x) (text_by disp))

pub text_set_fresh : (disp : Display) → ModeSetShowsFreshScreen (number_of disp) (mode_row_of_display disp)
text_set_fresh disp = sets_fresh (number_of disp) (mode_row_of_display disp) (set_by disp) (shows_fresh disp)
