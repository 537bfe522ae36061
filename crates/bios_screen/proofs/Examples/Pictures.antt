-- Dots of a screen with two pages of two cells each, computed.
use Rattle.std.proofs.Common.{◌≡◌, ℕ, refl, List, [], ◌∷◌, Bool, true, false}
use Rattle.bios_screen.specs.Screen.{Cells, Screen}
use Rattle.bios_screen.specs.Picture.{is_glyph_dot, is_foreground, nibble, colour_of_value, text_dot_colour, dot_colour_at}

-- character 0 has no dot, and character 1 has the outer dots of its top row
abbrev two_glyphs : List ℕ
two_glyphs = 0 ∷ 0 ∷ 0 ∷ 0 ∷ 0 ∷ 0 ∷ 0 ∷ 0 ∷ 0 ∷ 0 ∷ 0 ∷ 0 ∷ 0 ∷ 0 ∷ 0 ∷ 0 ∷ 0x81 ∷ 0 ∷ 0 ∷ 0 ∷ 0 ∷ 0 ∷ 0 ∷ 0 ∷ 0 ∷ 0 ∷ 0 ∷ 0 ∷ 0 ∷ 0 ∷ 0 ∷ 0 ∷ []

-- a screen in this mode and frame, blinking or not, with these attributes in its first two cells;
-- page 1 has its cursor in its second cell
abbrev shown : ℕ → ℕ → ℕ → Bool → ℕ → Screen
shown mode a b is_blink frame = record {
  mode = mode;
  layout = record { columns = 2; rows = 1; height = 16; distance = 2; pages = 2 };
  contents = Cells ((1, a) ∷ (0, b) ∷ (1, 0x2A) ∷ (0, 0x23) ∷ []);
  places = 0 ∷ 1 ∷ [];
  cursor_type = 0x0D0E;
  page = 1;
  palette = record { values = 0 ∷ 1 ∷ 2 ∷ 3 ∷ []; reds = 10 ∷ 11 ∷ 12 ∷ 13 ∷ []; greens = 20 ∷ 21 ∷ 22 ∷ 23 ∷ []; blues = 30 ∷ 31 ∷ 32 ∷ 33 ∷ []; mask = 1 };
  overscan = 5;
  is_blink = is_blink;
  glyphs = two_glyphs;
  frame = frame;
}

-- the glyph's outer dots have the foreground; those between and the ninth have the background
pub left_dot : nibble (shown 3 0x1E 0 true 0) 0 0 0 ≡ 0x0E
unfolding nibble is_foreground
left_dot = refl

between : nibble (shown 3 0x1E 0 true 0) 0 0 1 ≡ 1
unfolding nibble is_foreground
between = refl

right_dot : nibble (shown 3 0x1E 0 true 0) 0 0 7 ≡ 0x0E
unfolding nibble is_foreground
right_dot = refl

ninth_dot : nibble (shown 3 0x1E 0 true 0) 0 0 8 ≡ 1
unfolding nibble is_foreground
ninth_dot = refl

-- the ninth dot repeats the eighth only for the line-drawing characters
before_lines : is_glyph_dot 0xBF 0x01 8 ≡ false
before_lines = refl

first_line : is_glyph_dot 0xC0 0x01 8 ≡ true
first_line = refl

last_line : is_glyph_dot 0xDF 0x01 8 ≡ true
last_line = refl

after_lines : is_glyph_dot 0xE0 0x01 8 ≡ false
after_lines = refl

-- attribute bit 7 belongs to the background if blinking is off; else the character blinks
bright : nibble (shown 3 0x9E 0 false 16) 0 0 1 ≡ 9
unfolding nibble is_foreground
bright = refl

blinking : nibble (shown 3 0x9E 0 true 0) 0 0 0 ≡ 0x0E
unfolding nibble is_foreground
blinking = refl

blinked_away : nibble (shown 3 0x9E 0 true 16) 0 0 0 ≡ 1
unfolding nibble is_foreground
blinked_away = refl

-- in monochrome the underline is in the character's last line; it blinks with the character
underline : nibble (shown 7 0 0x01 true 0) 1 15 4 ≡ 1
unfolding nibble is_foreground
underline = refl

above_underline : nibble (shown 7 0 0x01 true 0) 1 14 4 ≡ 0
unfolding nibble is_foreground
above_underline = refl

no_underline : nibble (shown 3 0 0x01 true 0) 1 15 4 ≡ 0
unfolding nibble is_foreground
no_underline = refl

underline_blinks : nibble (shown 7 0 0x81 true 16) 1 15 4 ≡ 0
unfolding nibble is_foreground
underline_blinks = refl

-- the active page's cursor shows on its scan lines, in the first 8 of 16 frames
cursor : nibble (shown 3 0 0 true 7) 3 13 8 ≡ 3
unfolding nibble is_foreground
cursor = refl

above_cursor : nibble (shown 3 0 0 true 7) 3 12 8 ≡ 2
unfolding nibble is_foreground
above_cursor = refl

cursor_off : nibble (shown 3 0 0 true 8) 3 13 8 ≡ 2
unfolding nibble is_foreground
cursor_off = refl

other_page : nibble (shown 3 0x1E 0x1E true 7) 1 13 8 ≡ 1
unfolding nibble is_foreground
other_page = refl

-- a palette value selects a DAC entry, through the mask
masked : colour_of_value (shown 3 0 0 true 0).palette 3 ≡ 11 ∷ 21 ∷ 31 ∷ []
masked = refl

-- column 9 of line 13 of page 1 is a dot of the cursor
place : dot_colour_at (shown 3 0 0 true 7) 1 9 13 ≡ 11 ∷ 21 ∷ 31 ∷ []
unfolding text_dot_colour nibble is_foreground
place = refl
