-- Services keep the mode and the layout of a plain screen.
use Rattle.std.proofs.Common.{◌≡◌, ℕ, zero, suc, ◌+◌, ◌-◌, refl, ◌∙◌, Bool, true, false, List, Option, Some, None}
use Rattle.std.specs.Prelude.{◌==◌, nat_lt, if◌then◌else◌}
use Rattle.bios_screen.proofs.Prelude.{Refusal, FontSet, Colouring, Direction, Up, Down, Window, Screen, page_or_0_on_screen_of_one_page}
use Rattle.bios_services.specs.declared.strings.StringCall.{StringCall}
use Rattle.bios_services.specs.declared.colours.ColourService.{ColourService}
use Rattle.bios_services.specs.declared.colours.ColourService.TheVariants.{SetRegister, SetOverscan, SetPalette, SetBlinking, ReadRegister, ReadOverscan}
use Rattle.bios_services.specs.declared.colours.ColourService.TheVariants.{SetEntry, SetEntries, ReadEntry, SetMask, ReadMask}
use Rattle.bios_services.specs.declared.call.Service.{Service}
use Rattle.bios_services.specs.declared.call.Service.TheVariants.{SetCursorType, SetCursor, ReadCursor, SelectPage, ScrollUp, ScrollDown, ReadCell, WriteCells}
use Rattle.bios_services.specs.declared.call.Service.TheVariants.{WritePixel, ReadPixel, Teletype, ReadMode, Colours, ReadAdapter, WriteString, ReadDisplay}
use Rattle.bios_services.specs.declared.scroll.Scroll.{Scroll}
use Rattle.bios_services.specs.Scroll.{window_clipped_to_page}
use Rattle.bios_services.specs.Teletype.{position_at_start_of_row, pixel_colouring}
use Rattle.bios_services.specs.Strings.{character_at, colouring_of_character}
use Rattle.bios_services.specs.Cursor.{row_of_position, column_of_position}
use Rattle.bios_screen.specs.Screen.{cursor_position}
use Rattle.bios_screen.specs.Colours.{with_colours}
use Rattle.bios_screen.specs.Called.{screen_unless_refused}
use Rattle.bios_screen.specs.Step.{after_scroll_of_window, last_row_attribute, page_up, after_line_feed, screen_and_next_position, put_character, type_character, type_characters}
use Rattle.bios_screen.specs.Step.{with_position, next}

-- t has the mode and the layout of s
pub record IsCutAs (s t : Screen) : Type 0 where
  pub mode : t.mode ≡ s.mode
  pub layout : t.layout ≡ s.layout

pub uncut : (s : Screen) → IsCutAs s s
uncut s = record { mode = refl; layout = refl }

cut_on : {s t u : Screen} → IsCutAs s t → IsCutAs t u → IsCutAs s u
cut_on a b = record { mode = b.mode ∙ a.mode; layout = b.layout ∙ a.layout }

cut_if : (s : Screen) (b : Bool) (x y : Screen × ℕ) → IsCutAs s x.0 → IsCutAs s y.0 → IsCutAs s (if b then x else y).0
cut_if s true x y h k = h
cut_if s false x y h k = k

cut_either : (s : Screen) (b : Bool) (x y : Screen) → IsCutAs s x → IsCutAs s y → IsCutAs s (if b then x else y)
cut_either s true x y h k = h
cut_either s false x y h k = k

fed_cut : (s : Screen) (page place : ℕ) → IsCutAs s (after_line_feed s page place).0
fed_cut s page place = cut_if s (nat_lt (row_of_position place) (s.layout.rows - 1)) (s, place + 256) (
  page_up s page (last_row_attribute s page place),
  place,
) (uncut s) (record { mode = refl; layout = refl })

advanced_cut : (s : Screen) (page place : ℕ) → IsCutAs s (screen_and_next_position s page place).0
advanced_cut s page place = cut_if s (nat_lt (column_of_position place + 1) s.layout.columns) (s, place + 1) (
  (after_line_feed s page place).0,
  position_at_start_of_row (after_line_feed s page place).1,
) (uncut s) (fed_cut s page place)

typed_cut : (fonts : FontSet) (s : Screen) (page place character : ℕ) (colouring : Colouring) →
    IsCutAs s (type_character fonts s page place character colouring).0
unfolding type_character
typed_cut fonts s page place character colouring =
    let put = put_character fonts s page place character colouring in
    let is_put : IsCutAs s put = record { mode = refl; layout = refl } in
    cut_if s (character == 0x07) (s, place) _ (uncut s)
    (cut_if s (character == 0x08) (s, if column_of_position place == 0 then place else place - 1) _ (uncut s)
    (cut_if s (character == 0x0A) (after_line_feed s page place) _ (fed_cut s page place)
    (cut_if s (character == 0x0D) (s, position_at_start_of_row place) (screen_and_next_position put page place) (uncut s) (cut_on is_put (advanced_cut put page place)))))

string_cut : (fonts : FontSet) (call : StringCall) (block : List ℕ) (page n i : ℕ) (at : Screen × ℕ) →
    IsCutAs at.0 (type_characters fonts call block page n i at).0
string_cut fonts call block page zero i at = uncut at.0
string_cut fonts call block page (suc n) i at =
    let after = type_character fonts at.0 page at.1 (character_at call block i) (colouring_of_character call block i) in
    cut_on (typed_cut fonts at.0 page at.1 (character_at call block i) (colouring_of_character call block i)) (string_cut fonts call block page n (i + 1) after)

coloured_cut : (s : Screen) (service : ColourService) (block : List ℕ) → IsCutAs s (with_colours s service block)
unfolding with_colours
coloured_cut s (SetRegister register value) block = record { mode = refl; layout = refl }
coloured_cut s (SetOverscan value) block = record { mode = refl; layout = refl }
coloured_cut s SetPalette block = record { mode = refl; layout = refl }
coloured_cut s (SetBlinking blinking) block = record { mode = refl; layout = refl }
coloured_cut s (ReadRegister register) block = uncut s
coloured_cut s ReadOverscan block = uncut s
coloured_cut s (SetEntry entry red green blue) block = record { mode = refl; layout = refl }
coloured_cut s (SetEntries first count) block = record { mode = refl; layout = refl }
coloured_cut s (ReadEntry entry) block = uncut s
coloured_cut s (SetMask mask) block = record { mode = refl; layout = refl }
coloured_cut s ReadMask block = uncut s

scrolled_cut : (s : Screen) (asked : Scroll) (direction : Direction) (w : Option Window) → IsCutAs s (after_scroll_of_window s asked direction w)
scrolled_cut s asked direction None = uncut s
scrolled_cut s asked direction (Some w) = record { mode = refl; layout = refl }

-- a service, which sets no mode, keeps both
pub next_cut : (fonts : FontSet) (s : Screen) (service : Service) (block : List ℕ) → IsCutAs s (next fonts s service block)
unfolding next
next_cut fonts s (SetCursorType cursor_type) block = record { mode = refl; layout = refl }
next_cut fonts s (SetCursor page place) block = record { mode = refl; layout = refl }
next_cut fonts s (ReadCursor page) block = uncut s
next_cut fonts s (SelectPage page) block = record { mode = refl; layout = refl }
next_cut fonts s (ScrollUp asked) block = scrolled_cut s asked Up (window_clipped_to_page s.layout.rows s.layout.columns asked)
next_cut fonts s (ScrollDown asked) block = scrolled_cut s asked Down (window_clipped_to_page s.layout.rows s.layout.columns asked)
next_cut fonts s (ReadCell page) block = uncut s
next_cut fonts s (WriteCells cells) block = record { mode = refl; layout = refl }
next_cut fonts s (WritePixel page x y colour) block = record { mode = refl; layout = refl }
next_cut fonts s (ReadPixel page x y) block = uncut s
next_cut fonts s (Teletype character colour) block =
    let after = type_character fonts s s.page (cursor_position s s.page) character (pixel_colouring colour) in
    let is : IsCutAs s after.0 = typed_cut fonts s s.page (cursor_position s s.page) character (pixel_colouring colour) in
    cut_either s (character == 0x07) s (with_position after.0 s.page after.1) (uncut s) (record { mode = is.mode; layout = is.layout })
next_cut fonts s ReadMode block = uncut s
next_cut fonts s (Colours service) block = coloured_cut s service block
next_cut fonts s ReadAdapter block = uncut s
next_cut fonts s (WriteString call) block =
    let page = page_or_0_on_screen_of_one_page s call.page in
    let after = type_characters fonts call block page call.count 0 (s, call.position) in
    let is : IsCutAs s after.0 = string_cut fonts call block page call.count 0 (s, call.position) in
    cut_either s call.moves_cursor (with_position after.0 page after.1) after.0 (record { mode = is.mode; layout = is.layout }) is
next_cut fonts s ReadDisplay block = uncut s

pub unless_cut : (why : Option Refusal) (fonts : FontSet) (s : Screen) (service : Service) (block : List ℕ) →
    IsCutAs s (screen_unless_refused why s (next fonts s service block))
unless_cut None fonts s service block = next_cut fonts s service block
unless_cut (Some why) fonts s service block = uncut s
