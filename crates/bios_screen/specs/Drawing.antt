-- A plain screen and the dot that comes next: dots are drawn one at a time, and services may come
-- between them.
-- From the IBM PS/2 Hardware Interface Technical Reference, Video Subsystems, "CRT Controller
-- Registers"; that a frame shows the page that is active at its first dot is this adapter's choice.
use Rattle.std.specs.Prelude.{ℕ, zero, suc, ◌≡◌, ◌≢◌, ◌⊎◌, ◌+◌, ◌-◌, ◌*◌, ◌/◌, ◌%◌, ◌==◌, ◌&&◌}
use Rattle.std.specs.Prelude.{nat_lt, Bool, if◌then◌else◌, List, [], ◌++◌, Option, Some, None}
use Rattle.bios_services.specs.declared.glyph_load.GlyphLoad.{GlyphLoad}
use Rattle.bios_modes.specs.Kinds.{is_text}
use Rattle.bios_modes.specs.Modes.{mode_row}
use Rattle.bios_modes.specs.declared.modes.ModeRow.{ModeRow}
use Rattle.bios_screen.specs.Screen.{Screen}
use Rattle.bios_screen.specs.Loaded.{load_refusal_on}
use Rattle.bios_screen.specs.Picture.{dot_colour_at, pixel_lines_of_mode, pixel_width, picture_width}
use Rattle.bios_screen.specs.Picture.{picture_height}
use Rattle.bios_screen.specs.Picture.{next_frame}

-- how many columns of characters a mode has, by its row of the mode table; without a row, 80
abbrev pub columns_of_row : Option ModeRow → ℕ
columns_of_row None = 80
columns_of_row (Some row) = row.columns

-- how many columns of characters a mode has, by its number
abbrev pub columns_of_mode : ℕ → ℕ
columns_of_mode mode = columns_of_row (mode_row mode)

-- how many dots a line of a mode has: those of the picture, and a quarter as many to its right
abbrev pub dots_a_line : ℕ → ℕ
dots_a_line mode = if is_text mode then 900 else 10 * (pixel_width mode * columns_of_mode mode)

-- how many lines a frame of a mode has: those of the picture, and more below
abbrev pub lines_a_frame : ℕ → ℕ
lines_a_frame mode = if pixel_lines_of_mode mode == 480 then 525 else 449

-- how many dots a frame of a mode has; it is opaque, or else checks would count down from it
unfoldable pub total_dots_of_frame_in_mode : ℕ → ℕ
total_dots_of_frame_in_mode mode = lines_a_frame mode * dots_a_line mode

-- a screen, the number of the next dot in its frame, the page that the frame shows, and its picture
-- so far: red, green and blue of each dot. At dot 0, page and picture are still those of the frame
-- that ended
pub record Drawing : Type 0 where
  pub screen : Screen
  pub dot : ℕ
  pub page : ℕ
  pub picture : List ℕ

-- the page that the frame shows: at dot 0 the active one, and then the same to the end of the frame
abbrev pub page_shown : Drawing → ℕ
page_shown b = if b.dot == 0 then b.screen.page else b.page

-- the picture of the frame so far, which is empty at dot 0
abbrev pub picture_so_far : Drawing → List ℕ
picture_so_far b = if b.dot == 0 then [] else b.picture

-- whether dot n of a frame belongs to the picture
abbrev pub is_picture_dot : Screen → ℕ → Bool
is_picture_dot s n = nat_lt (n % dots_a_line s.mode) (picture_width s)
    && nat_lt (n / dots_a_line s.mode) (picture_height s)

-- the colour of dot n of a frame that shows this page of the screen; nothing if it is outside
abbrev pub colour_of_frame_dot : Screen → ℕ → ℕ → List ℕ
colour_of_frame_dot s page n = if is_picture_dot s n then dot_colour_at s page (n % dots_a_line s.mode)
    (n / dots_a_line s.mode) else []

-- whether the next dot is the last one of its frame
abbrev pub is_last_dot_of_frame : Drawing → Bool
is_last_dot_of_frame b = b.dot + 1 == total_dots_of_frame_in_mode b.screen.mode

-- one dot: its colour joins the picture; dot 0 of the next frame follows the last one
unfoldable pub take_dot : Drawing → Drawing
take_dot b = record {
  screen = if is_last_dot_of_frame b then next_frame b.screen else b.screen;
  dot = if is_last_dot_of_frame b then 0 else b.dot + 1;
  page = page_shown b;
  picture = picture_so_far b ++ colour_of_frame_dot b.screen (page_shown b) b.dot;
}

-- n dots, one after another
unfoldable pub take_dots : ℕ → Drawing → Drawing
take_dots zero b = b
take_dots (suc n) b = take_dots n (take_dot b)

-- the dots to the end of the frame, at least one; the picture is then complete
abbrev pub take_frame : Drawing → Drawing
take_frame b = take_dots (total_dots_of_frame_in_mode b.screen.mode - b.dot) b

-- ---- calls between dots

-- a load of glyphs lays text out anew, so it comes at dot 0, or is refused
abbrev pub MayLoadGlyphs : Drawing → GlyphLoad → ℕ → Type 0
MayLoadGlyphs b load len = (load_refusal_on b.screen load len ≢ None) ⊎ (b.dot ≡ 0)
