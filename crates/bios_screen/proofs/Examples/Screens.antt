-- What services do to a screen of two rows of three cells, computed.
use Rattle.std.proofs.Common.{◌≡◌, ℕ, refl, List, [], ◌∷◌, Some, None, Bool, true, false}
use Rattle.vga_bits.specs.declared.refusal.Refusal.TheVariants.{WrongKind, BadPage, Outside, CountPast, BadRegister, BadBlock}
use Rattle.bios_modes.specs.Fonts.{FontSet}
use Rattle.bios_services.specs.declared.cell_run.CellRun.{CellRun}
use Rattle.bios_services.specs.declared.colours.ColourService.TheVariants.{SetRegister, SetEntries}
use Rattle.bios_services.specs.declared.tables.TableService.TheVariants.{ReadPalette, ReadEntries}
use Rattle.bios_services.specs.declared.reply.Table.TheVariants.{Palette as PaletteTable, Dac as DacTable}
use Rattle.bios_services.specs.declared.call.Service.{Service}
use Rattle.bios_services.specs.declared.call.Service.TheVariants.{SetCursor, SelectPage, ScrollUp, ScrollDown, WriteCells, WritePixel, Teletype, Colours}
use Rattle.bios_services.specs.declared.call.Service.TheVariants.{WriteString}
use Rattle.bios_screen.specs.Screen.{Cell, Cells, Screen}
use Rattle.bios_screen.specs.Colours.{with_colours as colours_after, table_answer}
use Rattle.bios_screen.specs.Step.{refusal_on, next, type_character, cells_on}

-- a page of these cells, with the cursor at this position
abbrev small : List Cell → ℕ → Screen
small cells place = record {
  mode = 3;
  layout = record { columns = 3; rows = 2; height = 16; distance = 8; pages = 1 };
  contents = Cells cells;
  places = place ∷ 0 ∷ [];
  cursor_type = 0x0D0E;
  page = 0;
  palette = record { values = []; reds = []; greens = []; blues = []; mask = 0xFF };
  overscan = 0;
  is_blink = true;
  glyphs = [];
  frame = 0;
}

-- rows 1 2 3 and 4 5 6, with the attributes 11 to 16, and two cells that the page does not show
abbrev six : List Cell
six = (1, 11) ∷ (2, 12) ∷ (3, 13) ∷ (4, 14) ∷ (5, 15) ∷ (6, 16) ∷ (7, 17) ∷ (8, 18) ∷ []

-- a run of cells that get a character in this colour; the colour is the attribute, or is ignored
abbrev run : ℕ → ℕ → Bool → ℕ → CellRun
run character colour is_attribute count = record {
  page = 0;
  character = character;
  colouring = record { colour = colour; is_attribute = is_attribute };
  count = count;
}

-- cells of text need no fonts
abbrev no_fonts : FontSet
no_fonts = record { f8 = []; f14 = []; f16 = [] }

abbrev after : Screen → Service → List Cell
after s service = cells_on (next no_fonts s service []).contents

-- 09 writes the attribute too; 0A does not
coloured_write : after (small six 1) (WriteCells (run 65 30 true 2)) ≡ (1, 11) ∷ (65, 30) ∷ (65, 30) ∷ (4, 14) ∷ (5, 15) ∷ (6, 16) ∷ (7, 17) ∷ (8, 18) ∷ []
unfolding next
coloured_write = refl

character_write : after (small six 256) (WriteCells (run 65 30 false 3)) ≡ (1, 11) ∷ (2, 12) ∷ (3, 13) ∷ (65, 14) ∷ (65, 15) ∷ (65, 16) ∷ (7, 17) ∷ (8, 18) ∷ []
unfolding next
character_write = refl

-- four cells from the second row on go past the end of the page
long_write : refusal_on (small six 256) (WriteCells (run 65 30 false 4)) 0 ≡ Some CountPast
unfolding refusal_on
long_write = refl

-- a window of the last two columns moves up by a row, and down by a row
window_up : after (small six 0) (ScrollUp (record { lines = 1; fill = 7; top = 0; left = 1; bottom = 1; right = 2 }))
    ≡ (1, 11) ∷ (5, 15) ∷ (6, 16) ∷ (4, 14) ∷ (0x20, 7) ∷ (0x20, 7) ∷ (7, 17) ∷ (8, 18) ∷ []
unfolding next
window_up = refl

window_down : after (small six 0) (ScrollDown (record { lines = 1; fill = 7; top = 0; left = 1; bottom = 1; right = 2 }))
    ≡ (1, 11) ∷ (0x20, 7) ∷ (0x20, 7) ∷ (4, 14) ∷ (2, 12) ∷ (3, 13) ∷ (7, 17) ∷ (8, 18) ∷ []
unfolding next
window_down = refl

-- 0 lines means all rows of the window, and corners outside the page are cut
whole_page : after (small six 0) (ScrollUp (record { lines = 0; fill = 7; top = 1; left = 0; bottom = 99; right = 99 }))
    ≡ (1, 11) ∷ (2, 12) ∷ (3, 13) ∷ (0x20, 7) ∷ (0x20, 7) ∷ (0x20, 7) ∷ (7, 17) ∷ (8, 18) ∷ []
unfolding next
whole_page = refl

-- a window with no row changes nothing
no_window : after (small six 0) (ScrollUp (record { lines = 1; fill = 7; top = 2; left = 0; bottom = 9; right = 2 })) ≡ six
unfolding next
no_window = refl

-- a character in the last cell is written before the page goes up, with the attribute of its column
last_cell : next no_fonts (small six 258) (Teletype 65 9) [] ≡ small ((4, 14) ∷ (5, 15) ∷ (65, 16) ∷ (0x20, 16) ∷ (0x20, 16) ∷ (0x20, 16) ∷ (7, 17) ∷ (8, 18)
    ∷ []) 256
unfolding next type_character
last_cell = refl

-- a bell, a backspace, a line feed and a carriage return
pub bell : next no_fonts (small six 258) (Teletype 0x07 9) [] ≡ small six 258
unfolding next type_character
bell = refl

backspace : next no_fonts (small six 258) (Teletype 0x08 9) [] ≡ small six 257
unfolding next type_character
backspace = refl

line_feed : next no_fonts (small six 1) (Teletype 0x0A 9) [] ≡ small six 257
unfolding next type_character
line_feed = refl

carriage_return : next no_fonts (small six 258) (Teletype 0x0D 9) [] ≡ small six 256
unfolding next type_character
carriage_return = refl

-- with one page, any page number means that page, but another page cannot be shown
page_named : refusal_on (small six 0) (SetCursor 5 0) 0 ≡ None
unfolding refusal_on
page_named = refl

page_shown : refusal_on (small six 0) (SelectPage 1) 0 ≡ Some BadPage
unfolding refusal_on
page_shown = refl

typed_outside : refusal_on (small six 3) (Teletype 65 9) 0 ≡ Some Outside
unfolding refusal_on
typed_outside = refl

-- a string with attributes across the end of a row, which moves the cursor or leaves it
abbrev string : Bool → Service
string moves = WriteString (record { page = 0; position = 2; colour = 0; count = 2; has_attributes = true; moves_cursor = moves })

abbrev two : List ℕ
two = 65 ∷ 30 ∷ 66 ∷ 31 ∷ []

string_moved : next no_fonts (small six 0) (string true) two ≡ small ((1, 11) ∷ (2, 12) ∷ (65, 30) ∷ (66, 31) ∷ (5, 15) ∷ (6, 16) ∷ (7, 17) ∷ (8, 18) ∷ []) 257
unfolding next type_character
string_moved = refl

string_left : next no_fonts (small six 0) (string false) two ≡ small ((1, 11) ∷ (2, 12) ∷ (65, 30) ∷ (66, 31) ∷ (5, 15) ∷ (6, 16) ∷ (7, 17) ∷ (8, 18) ∷ []) 0
unfolding next type_character
string_left = refl

short_block : refusal_on (small six 0) (string true) 3 ≡ Some BadBlock
unfolding refusal_on
short_block = refl

-- in text no pixel can be written
no_dots : refusal_on (small six 0) (WritePixel 0 0 0 1) 0 ≡ Some WrongKind
unfolding refusal_on
no_dots = refl

-- ---- colours

-- a screen whose palette has two values, and whose DAC has three entries
abbrev coloured : Screen
coloured = record (small six 0) {
  palette = record {
    values = 1 ∷ 2 ∷ [];
    reds = 10 ∷ 11 ∷ 12 ∷ [];
    greens = 20 ∷ 21 ∷ 22 ∷ [];
    blues = 30 ∷ 31 ∷ 32 ∷ [];
    mask = 0xFF;
  };
}

-- six bits of a palette value are kept
value_set : (next no_fonts coloured (Colours (SetRegister 1 0xC5)) []).palette.values ≡ 1 ∷ 5 ∷ []
unfolding next colours_after
value_set = refl

-- entries from entry 1 on get three bytes each
entries_set : (next no_fonts coloured (Colours (SetEntries 1 2)) (1 ∷ 2 ∷ 3 ∷ 4 ∷ 5 ∷ 0x46 ∷ [])).palette
    ≡ record coloured.palette { reds = 10 ∷ 1 ∷ 4 ∷ []; greens = 20 ∷ 2 ∷ 5 ∷ []; blues = 30 ∷ 3 ∷ 6 ∷ [] }
unfolding next colours_after
entries_set = refl

-- a block that is too short is refused, and so is a register that does not exist
short_entries : refusal_on coloured (Colours (SetEntries 1 2)) 5 ≡ Some BadBlock
unfolding refusal_on
short_entries = refl

no_register : refusal_on coloured (Colours (SetRegister 16 0)) 0 ≡ Some BadRegister
unfolding refusal_on
no_register = refl

-- the palette is answered with the overscan after it; each entry is answered as three bytes
palette_table : table_answer (record coloured { overscan = 7 }) ReadPalette ≡ PaletteTable (1 ∷ 2 ∷ 7 ∷ [])
palette_table = refl

entries_table : table_answer coloured (ReadEntries 1 2) ≡ DacTable (11 ∷ 21 ∷ 31 ∷ 12 ∷ 22 ∷ 32 ∷ [])
entries_table = refl
