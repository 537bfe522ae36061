-- Pixels of small memories and of a screen of two lines of eight pixels, computed.
use Rattle.std.proofs.Common.{◌≡◌, ℕ, refl, List, [], ◌∷◌, Some, None, true, false}
use Rattle.bios_screen.proofs.Prelude.{Four, FontSet, list_by_function, Screen, planar_pixel, pixel_of_256_colours}
use Rattle.vga_bits.specs.declared.refusal.Refusal.TheVariants.{Outside}
use Rattle.bios_services.specs.declared.scroll.Scroll.{Scroll}
use Rattle.bios_services.specs.declared.cell_run.CellRun.{CellRun}
use Rattle.bios_services.specs.declared.call.Service.TheVariants.{ScrollUp, ScrollDown, ReadCell, WriteCells, WritePixel, ReadPixel, Teletype, WriteString}
use Rattle.vga_bits.specs.Bits.{byte_of_bits}
use Rattle.std.specs.Prelude.{◌==◌, if◌then◌else◌}
use Rattle.bios_services.specs.Glyphs.{glyph_has_lines, first_character_with_lines}
use Rattle.bios_screen.specs.Screen.{Pixels}
use Rattle.bios_screen.specs.Parts.{cell_at, pixel_at}
use Rattle.bios_screen.specs.Step.{pages_on, refusal_on, next, answer_on, type_character}
use Rattle.bios_screen.specs.Picture.{pixel_dot_colour, dot_colour_at, picture_width, picture_height}

-- a byte of each plane at offset 0, and another byte of plane 1 at offset 4
abbrev memory : Four (List ℕ)
memory = record { plane0 = 0x80 ∷ []; plane1 = 0x40 ∷ 0 ∷ 0 ∷ 0 ∷ 0x2A ∷ []; plane2 = 0xC0 ∷ []; plane3 = 0x01 ∷ [] }

-- bit p of a pixel comes from plane p; the first pixel is the highest bit
first : planar_pixel memory 0 0 ≡ 5
first = refl

second : planar_pixel memory 0 1 ≡ 6
second = refl

eighth : planar_pixel memory 0 7 ≡ 8
eighth = refl

-- pixel 34 of a page at offset 0 is bit 5 of byte 4, and so is pixel 2 of a page at offset 4
later : planar_pixel memory 0 34 ≡ 2
later = refl

later_page : planar_pixel memory 4 2 ≡ 2
later_page = refl

-- in 256 colours pixel 5 is in plane 1 at offset 4
packed : pixel_of_256_colours memory 5 ≡ 0x2A
packed = refl

-- two lines of pixels, 1 2 3 0 0 0 0 0 and 3 0 0 0 0 0 0 2, in any mode
abbrev shown : ℕ → Screen
shown mode = record {
  mode = mode;
  layout = record { columns = 1; rows = 1; height = 2; distance = 0; pages = 1 };
  contents = Pixels ((1 ∷ 2 ∷ 3 ∷ 0 ∷ 0 ∷ 0 ∷ 0 ∷ 0 ∷ 3 ∷ 0 ∷ 0 ∷ 0 ∷ 0 ∷ 0 ∷ 0 ∷ 2 ∷ []) ∷ []);
  places = 0 ∷ [];
  cursor_type = 0;
  page = 0;
  palette = record { values = 0 ∷ 3 ∷ 1 ∷ 2 ∷ []; reds = 10 ∷ 11 ∷ 12 ∷ 13 ∷ []; greens = 20 ∷ 21 ∷ 22 ∷ 23 ∷ []; blues = 30 ∷ 31 ∷ 32 ∷ 33 ∷ []; mask = 3 };
  overscan = 0;
  is_blink = false;
  glyphs = [];
  frame = 0;
}

-- a pixel selects a palette value, which selects a DAC entry
coloured : dot_colour_at (shown 0x10) 0 1 0 ≡ 11 ∷ 21 ∷ 31 ∷ []
unfolding pixel_dot_colour
coloured = refl

last : dot_colour_at (shown 0x12) 0 7 1 ≡ 11 ∷ 21 ∷ 31 ∷ []
unfolding pixel_dot_colour
last = refl

-- in mode 0D a pixel is two lines high
two_lines : dot_colour_at (shown 0x0D) 0 0 1 ≡ 13 ∷ 23 ∷ 33 ∷ []
unfolding pixel_dot_colour
two_lines = refl

third_line : dot_colour_at (shown 0x0D) 0 0 2 ≡ 12 ∷ 22 ∷ 32 ∷ []
unfolding pixel_dot_colour
third_line = refl

-- in mode 13 a pixel is two dots by two lines, and selects a DAC entry itself
entry : dot_colour_at (shown 0x13) 0 3 1 ≡ 12 ∷ 22 ∷ 32 ∷ []
unfolding pixel_dot_colour
entry = refl

wide : picture_width (shown 0x13) ≡ 16
wide = refl

high : picture_height (shown 0x0D) ≡ 4
high = refl

-- the screen has pixels, and no cells
there : pixel_at (shown 0x10) 0 7 1 ≡ Some 2
there = refl

below : pixel_at (shown 0x10) 0 0 2 ≡ None
below = refl

no_cell : cell_at (shown 0x10) 0 0 0 ≡ None
no_cell = refl

-- ---- what services do to pixels

-- the first two rows of character 0
abbrev fonts : FontSet
fonts = record { f8 = []; f14 = []; f16 = 0xC1 ∷ 0x80 ∷ [] }

abbrev pixels : Screen → List (List ℕ)
pixels s = pages_on s.contents

-- in 256 colours a pixel becomes the colour
written : pixels (next fonts (shown 0x13) (WritePixel 0 2 1 0x81) []) ≡ (1 ∷ 2 ∷ 3 ∷ 0 ∷ 0 ∷ 0 ∷ 0 ∷ 0 ∷ 3 ∷ 0 ∷ 0x81 ∷ 0 ∷ 0 ∷ 0 ∷ 0 ∷ 2 ∷ []) ∷ []
unfolding next
written = refl

-- in 16 colours a pixel becomes the four low bits, and bit 7 asks for XOR
replaced : pixels (next fonts (shown 0x10) (WritePixel 0 1 0 0x15) []) ≡ (1 ∷ 5 ∷ 3 ∷ 0 ∷ 0 ∷ 0 ∷ 0 ∷ 0 ∷ 3 ∷ 0 ∷ 0 ∷ 0 ∷ 0 ∷ 0 ∷ 0 ∷ 2 ∷ []) ∷ []
unfolding next
replaced = refl

turned : pixels (next fonts (shown 0x10) (WritePixel 0 1 0 0x83) []) ≡ (1 ∷ 1 ∷ 3 ∷ 0 ∷ 0 ∷ 0 ∷ 0 ∷ 0 ∷ 3 ∷ 0 ∷ 0 ∷ 0 ∷ 0 ∷ 0 ∷ 0 ∷ 2 ∷ []) ∷ []
unfolding next
turned = refl

-- a character draws the colour where its glyph has dots, and 0 elsewhere in its cell
abbrev character : ℕ → CellRun
character colour = record { page = 0; character = 0; colouring = record { colour = colour; is_attribute = true }; count = 1 }

drawn : pixels (next fonts (shown 0x10) (WriteCells (character 0x15)) []) ≡ (5 ∷ 5 ∷ 0 ∷ 0 ∷ 0 ∷ 0 ∷ 0 ∷ 5 ∷ 5 ∷ 0 ∷ 0 ∷ 0 ∷ 0 ∷ 0 ∷ 0 ∷ 0 ∷ []) ∷ []
unfolding next
drawn = refl

-- with XOR the pixels elsewhere stay
drawn_over : pixels (next fonts (shown 0x10) (WriteCells (character 0x83)) []) ≡ (2 ∷ 1 ∷ 3 ∷ 0 ∷ 0 ∷ 0 ∷ 0 ∷ 3 ∷ 0 ∷ 0 ∷ 0 ∷ 0 ∷ 0 ∷ 0 ∷ 0 ∷ 2 ∷ []) ∷ []
unfolding next
drawn_over = refl

-- in 256 colours bit 7 belongs to the colour
drawn_packed : pixels (next fonts (shown 0x13) (WriteCells (character 0x83)) []) ≡ (0x83 ∷ 0x83 ∷ 0 ∷ 0 ∷ 0 ∷ 0 ∷ 0 ∷ 0x83 ∷ 0x83 ∷ 0 ∷ 0 ∷ 0 ∷ 0 ∷ 0 ∷ 0 ∷ 0
    ∷ []) ∷ []
unfolding next
drawn_packed = refl

-- three rows of one line each; the window is the second and the third, and moves up and down by a
-- row
abbrev tall : ℕ → Screen
tall mode = record (shown mode) {
  layout = record { columns = 1; rows = 3; height = 1; distance = 0; pages = 1 };
  contents = Pixels ((1 ∷ 1 ∷ 1 ∷ 1 ∷ 1 ∷ 1 ∷ 1 ∷ 1 ∷ 2 ∷ 3 ∷ 2 ∷ 2 ∷ 2 ∷ 2 ∷ 2 ∷ 2 ∷ 3 ∷ 4 ∷ 3 ∷ 3 ∷ 3 ∷ 3 ∷ 3 ∷ 3 ∷ []) ∷ []);
}

abbrev lower : Scroll
lower = record { lines = 1; fill = 0x15; top = 1; left = 0; bottom = 2; right = 0 }

up : pixels (next fonts (tall 0x10) (ScrollUp lower) []) ≡ (1 ∷ 1 ∷ 1 ∷ 1 ∷ 1 ∷ 1 ∷ 1 ∷ 1 ∷ 3 ∷ 4 ∷ 3 ∷ 3 ∷ 3 ∷ 3 ∷ 3 ∷ 3 ∷ 5 ∷ 5 ∷ 5 ∷ 5 ∷ 5 ∷ 5 ∷ 5 ∷ 5 ∷ [])
    ∷ []
unfolding next
up = refl

down : pixels (next fonts (tall 0x13) (ScrollDown lower) []) ≡ (1 ∷ 1 ∷ 1 ∷ 1 ∷ 1 ∷ 1 ∷ 1 ∷ 1 ∷ 0x15 ∷ 0x15 ∷ 0x15 ∷ 0x15 ∷ 0x15 ∷ 0x15 ∷ 0x15 ∷ 0x15 ∷ 2 ∷ 3
    ∷ 2 ∷ 2 ∷ 2 ∷ 2 ∷ 2 ∷ 2 ∷ []) ∷ []
unfolding next
down = refl

-- a pixel is answered in AL; one outside the page is refused
answered : answer_on fonts (shown 0x13) (ReadPixel 0 2 0) (record { ax = 0x0D00; bx = 0; cx = 2; dx = 0 }) ≡ record { ax = 0x0D03; bx = 0; cx = 2; dx = 0 }
unfolding answer_on
answered = refl

-- the pixels match the one glyph that has dots for just those that are not 0
seen : answer_on (record { f8 = []; f14 = []; f16 = list_by_function (λ i. if i == 0x10 then 0xE0 else if i == 0x11 then 0x81 else 0) 0 0x20 }) (shown 0x10) (ReadCell 0)
    (record { ax = 0x0D00; bx = 0; cx = 2; dx = 0 }) ≡ record { ax = 0x0D01; bx = 0; cx = 2; dx = 0 }
unfolding answer_on first_character_with_lines glyph_has_lines byte_of_bits
seen = refl

outside : refusal_on (shown 0x13) (ReadPixel 0 8 0) 0 ≡ Some Outside
unfolding refusal_on
outside = refl

-- ---- typing

-- eight pixels of one colour
abbrev eight : ℕ → List ℕ → List ℕ
eight n rest = n ∷ n ∷ n ∷ n ∷ n ∷ n ∷ n ∷ n ∷ rest

-- the eight pixels of character 0's top row, in one colour on another
abbrev dots : ℕ → ℕ → List ℕ → List ℕ
dots colour other rest = colour ∷ colour ∷ other ∷ other ∷ other ∷ other ∷ other ∷ colour ∷ rest

abbrev whole : List ℕ
whole = eight 1 (eight 2 (eight 3 (eight 4 [])))

-- two pages of two rows of two characters, one line high, with their cursor positions; page 1 is
-- shown
abbrev paged : ℕ → List ℕ → ℕ → List ℕ → ℕ → Screen
paged mode page0 place0 page1 place1 = record (shown mode) {
  layout = record { columns = 2; rows = 2; height = 1; distance = 0; pages = 2 };
  contents = Pixels (page0 ∷ page1 ∷ []);
  places = place0 ∷ place1 ∷ [];
  page = 1;
}

-- a character at the end of a row in 16 colours, and one by XOR
typed_opaque : next fonts (paged 0x0D whole 0 whole 0x0001) (Teletype 0 0x15) [] ≡ paged 0x0D whole 0 (eight 1 (dots 5 0 (eight 3 (eight 4 [])))) 0x0100
unfolding next type_character
typed_opaque = refl

typed_over : next fonts (paged 0x0D whole 0 whole 0x0100) (Teletype 0 0x87) [] ≡ paged 0x0D whole 0 (eight 1 (eight 2 (dots 4 3 (eight 4 [])))) 0x0101
unfolding next type_character
typed_over = refl

-- after the last column of the last row the page goes up, and the new row has colour 0
typed_last : next fonts (paged 0x0D whole 0 whole 0x0101) (Teletype 0 0x05) [] ≡ paged 0x0D whole 0 (eight 3 (dots 5 0 (eight 0 (eight 0 [])))) 0x0100
unfolding next type_character
typed_last = refl

-- a line feed there does the same, and leaves the cursor where it is
fed_last : next fonts (paged 0x0D whole 0 whole 0x0101) (Teletype 0x0A 0x05) [] ≡ paged 0x0D whole 0 (eight 3 (eight 4 (eight 0 (eight 0 [])))) 0x0101
unfolding next type_character
fed_last = refl

-- one page of 256 colours, and typing on it
abbrev single : List ℕ → ℕ → Screen
single page place = record (paged 0x13 page place [] 0) {
  layout = record { columns = 2; rows = 2; height = 1; distance = 0; pages = 1 };
  contents = Pixels (page ∷ []);
  places = place ∷ [];
  page = 0;
}

typed_packed : next fonts (single whole 0x0100) (Teletype 0 0x87) [] ≡ single (eight 1 (eight 2 (dots 0x87 0 (eight 4 [])))) 0x0101
unfolding next type_character
typed_packed = refl

last_packed : next fonts (single whole 0x0101) (Teletype 0 0x87) [] ≡ single (eight 3 (dots 0x87 0 (eight 0 (eight 0 [])))) 0x0100
unfolding next type_character
last_packed = refl

-- a string past the end of a page that is not shown: the first character is written before the page
-- goes up, and the second by XOR
string_typed : next fonts (paged 0x0D whole 0x0001 whole 0) (WriteString (record {
  page = 0;
  position = 0x0101;
  colour = 0;
  count = 2;
  has_attributes = true;
  moves_cursor = true;
})) (0 ∷ 5 ∷ 0 ∷ 0x83 ∷ []) ≡ paged 0x0D (eight 3 (dots 5 0 (dots 3 0 (eight 0 [])))) 0x0101 whole 0
unfolding next type_character
string_typed = refl

-- a cursor outside the page is refused
typed_outside : refusal_on (paged 0x0D whole 0 whole 0x0002) (Teletype 0 5) 0 ≡ Some Outside
unfolding refusal_on
typed_outside = refl
