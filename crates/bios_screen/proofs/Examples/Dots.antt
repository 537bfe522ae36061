-- Dots of a screen with two pages of two cells each, computed, with services between the dots.
use Rattle.std.proofs.Common.{◌≡◌, ℕ, refl, List, [], ◌∷◌, true, false, Some}
use Rattle.vga_bits.specs.declared.refusal.Refusal.TheVariants.{BadBlock}
use Rattle.bios_modes.specs.Fonts.{FontSet}
use Rattle.bios_services.specs.declared.call.Service.{Service}
use Rattle.bios_services.specs.declared.call.Service.TheVariants.{SelectPage, Colours}
use Rattle.bios_services.specs.declared.glyph_load.GlyphLoad.{GlyphLoad}
use Rattle.bios_services.specs.declared.colours.ColourService.TheVariants.{SetRegister}
use Rattle.bios_screen.specs.Screen.{Cells, Screen}
use Rattle.bios_screen.specs.Colours.{with_colours}
use Rattle.bios_screen.specs.Step.{next}
use Rattle.bios_screen.specs.Loaded.{load_refusal_on, load_glyphs}
use Rattle.bios_screen.specs.Picture.{is_foreground, nibble, text_dot_colour}
use Rattle.bios_screen.specs.Drawing.{Drawing, total_dots_of_frame_in_mode, take_dot, take_dots}

-- character 0 has no dot, and character 1 has the outer dots of its top row
abbrev two_glyphs : List ℕ
two_glyphs = 0 ∷ 0 ∷ 0 ∷ 0 ∷ 0 ∷ 0 ∷ 0 ∷ 0 ∷ 0 ∷ 0 ∷ 0 ∷ 0 ∷ 0 ∷ 0 ∷ 0 ∷ 0 ∷ 0x81 ∷ 0 ∷ 0 ∷ 0 ∷ 0 ∷ 0 ∷ 0 ∷ 0 ∷ 0 ∷ 0 ∷ 0 ∷ 0 ∷ 0 ∷ 0 ∷ 0 ∷ 0 ∷ []

-- 18 dots by 16 lines: colour 2 on 1 on page 0, colour 3 on 2 on page 1, and no cursor
abbrev small : ℕ → ℕ → Screen
small page frame = record {
  mode = 0x03;
  layout = record { columns = 2; rows = 1; height = 16; distance = 2; pages = 2 };
  contents = Cells ((1, 0x12) ∷ (0, 0x12) ∷ (1, 0x23) ∷ (0, 0x23) ∷ []);
  places = 0 ∷ 0 ∷ [];
  cursor_type = 0x2000;
  page = page;
  palette = record { values = 0 ∷ 1 ∷ 2 ∷ 3 ∷ []; reds = 10 ∷ 11 ∷ 12 ∷ 13 ∷ []; greens = 20 ∷ 21 ∷ 22 ∷ 23 ∷ []; blues = 30 ∷ 31 ∷ 32 ∷ 33 ∷ []; mask = 3 };
  overscan = 0;
  is_blink = false;
  glyphs = two_glyphs;
  frame = frame;
}

abbrev no_fonts : FontSet
no_fonts = record { f8 = []; f14 = []; f16 = [] }

-- dot n comes next in a frame of page 0, whose picture has one dot so far
abbrev at : Screen → ℕ → Drawing
at s n = record { screen = s; dot = n; page = 0; picture = 1 ∷ 2 ∷ 3 ∷ [] }

abbrev after : Service → Drawing → Drawing
after service b = record b { screen = next no_fonts b.screen service [] }

-- a frame begins with the active page and an empty picture
first : take_dot (at (small 1 0) 0) ≡ record { screen = small 1 0; dot = 1; page = 1; picture = 13 ∷ 23 ∷ 33 ∷ [] }
unfolding take_dot total_dots_of_frame_in_mode text_dot_colour nibble is_foreground
first = refl

two : take_dots 2 (at (small 0 0) 0) ≡ record { screen = small 0 0; dot = 2; page = 0; picture = 12 ∷ 22 ∷ 32 ∷ 11 ∷ 21 ∷ 31 ∷ [] }
unfolding take_dots take_dot total_dots_of_frame_in_mode text_dot_colour nibble is_foreground
two = refl

-- a palette value set between two dots shows at the second
coloured_between : (take_dot (after (Colours (SetRegister 1 3)) (take_dot (at (small 0 0) 0)))).picture ≡ 12 ∷ 22 ∷ 32 ∷ 13 ∷ 23 ∷ 33 ∷ []
unfolding take_dot total_dots_of_frame_in_mode text_dot_colour nibble is_foreground next with_colours
coloured_between = refl

-- a page that becomes active between two dots is shown from the next frame on
page_between : (take_dot (after (SelectPage 1) (take_dot (at (small 0 0) 0)))).picture ≡ 12 ∷ 22 ∷ 32 ∷ 11 ∷ 21 ∷ 31 ∷ []
unfolding take_dot total_dots_of_frame_in_mode text_dot_colour nibble is_foreground next
page_between = refl

-- dots to the right of the picture and below it are not part of it
right : (take_dot (at (small 0 0) 18)).picture ≡ 1 ∷ 2 ∷ 3 ∷ []
unfolding take_dot total_dots_of_frame_in_mode text_dot_colour nibble is_foreground
right = refl

below : (take_dot (at (small 0 0) 14400)).picture ≡ 1 ∷ 2 ∷ 3 ∷ []
unfolding take_dot total_dots_of_frame_in_mode text_dot_colour nibble is_foreground
below = refl

-- the second line begins at dot 900
second_line : take_dot (at (small 0 0) 900) ≡ record { screen = small 0 0; dot = 901; page = 0; picture = 1 ∷ 2 ∷ 3 ∷ 11 ∷ 21 ∷ 31 ∷ [] }
unfolding take_dot total_dots_of_frame_in_mode text_dot_colour nibble is_foreground
second_line = refl

-- the last dot ends frame 31: its picture stays, and dot 0 of frame 0 comes next
last : take_dot (at (small 1 31) 404099) ≡ record { screen = small 1 0; dot = 0; page = 0; picture = 1 ∷ 2 ∷ 3 ∷ [] }
unfolding take_dot total_dots_of_frame_in_mode text_dot_colour nibble is_foreground
last = refl

-- one glyph of 8 lines for character 1, with one dot: the first of its top row
abbrev one_glyph : GlyphLoad
one_glyph = record { height = 8; first = 1; count = 1; is_block = true }

abbrev cut_anew : Screen
cut_anew = load_glyphs no_fonts (small 1 0) one_glyph (0x80 ∷ 0 ∷ 0 ∷ 0 ∷ 0 ∷ 0 ∷ 0 ∷ 0 ∷ [])

-- a height set at dot 0 holds for the whole frame: page 0 is shown, and the second row of cells
-- begins at line 8
first_row_anew : take_dots 2 (at cut_anew 0) ≡ record { screen = cut_anew; dot = 2; page = 0; picture = 12 ∷ 22 ∷ 32 ∷ 11 ∷ 21 ∷ 31 ∷ [] }
unfolding take_dots take_dot total_dots_of_frame_in_mode text_dot_colour nibble is_foreground load_glyphs
first_row_anew = refl

second_row_anew : (take_dot (at cut_anew 7200)).picture ≡ 1 ∷ 2 ∷ 3 ∷ 13 ∷ 23 ∷ 33 ∷ []
unfolding take_dot total_dots_of_frame_in_mode text_dot_colour nibble is_foreground load_glyphs
second_row_anew = refl

line_8_before : (take_dot (at (small 0 0) 7200)).picture ≡ 1 ∷ 2 ∷ 3 ∷ 11 ∷ 21 ∷ 31 ∷ []
unfolding take_dot total_dots_of_frame_in_mode text_dot_colour nibble is_foreground
line_8_before = refl

-- a block that is too short is refused at any dot
short_block : load_refusal_on (small 0 0) one_glyph 7 ≡ Some BadBlock
short_block = refl

-- how many dots a frame has
text_dots : total_dots_of_frame_in_mode 0x03 ≡ 404100
unfolding total_dots_of_frame_in_mode
text_dots = refl

monochrome_dots : total_dots_of_frame_in_mode 0x07 ≡ 404100
unfolding total_dots_of_frame_in_mode
monochrome_dots = refl

low_dots : total_dots_of_frame_in_mode 0x0D ≡ 179600
unfolding total_dots_of_frame_in_mode
low_dots = refl

middle_dots : total_dots_of_frame_in_mode 0x10 ≡ 359200
unfolding total_dots_of_frame_in_mode
middle_dots = refl

high_dots : total_dots_of_frame_in_mode 0x12 ≡ 420000
unfolding total_dots_of_frame_in_mode
high_dots = refl

many_dots : total_dots_of_frame_in_mode 0x13 ≡ 359200
unfolding total_dots_of_frame_in_mode
many_dots = refl
