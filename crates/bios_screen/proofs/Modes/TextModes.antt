-- The two text displays, and the text rows of the mode table.
use Rattle.std.proofs.Common.{◌≡◌, ℕ, ◌+◌, ◌*◌, ◌<◌, ◌≤◌, refl, subst, arith, List, [], ◌∷◌, length, Bool, true, false, Some, None}
use Rattle.std.specs.Prelude.{slice_index, bit_and, nat_le, nat_lt, ◌==◌, ◌&&◌, if◌then◌else◌}
use Rattle.std.proofs.lemmas.Bool.Decides.{nat_tests}
use Rattle.bios_screen.proofs.Prelude.{crtc_port, ModeRow, mode_row_at_height, is_text, page_0_address_of_mode}
use Rattle.bios_modes.specs.declared.heights.TextRow.{TextRow as HeightRow}
use Rattle.bios_modes.specs.Heights.{fifty_rows_underlined_at, twenty_eight_rows_underlined_at, twenty_five_rows_underlined_at, with_text_row, with_height_row}
use Rattle.bios_modes.specs.Modes.{colour_text, monochrome_text}
use Rattle.bios_screen.proofs.Base.Setting.{Setting}
use Rattle.bios_screen.proofs.Modes.Frames.{Blinks}
use Rattle.bios_screen.proofs.Base.Tests.{none_some, some_same}

pub data Display : Type 0 where
  Colour : Display
  Monochrome : Display

abbrev pub misc_of : Display → ℕ
misc_of Colour = 0x67
misc_of Monochrome = 0x66

-- the miscellaneous register of the graphics controller, which selects the window
abbrev pub window_of : Display → ℕ
window_of Colour = 0x0E
window_of Monochrome = 0x0A

abbrev pub base_of : Display → ℕ
base_of Colour = 0xB8000
base_of Monochrome = 0xB0000

abbrev pub port_of : Display → ℕ
port_of Colour = 0x3D4
port_of Monochrome = 0x3B4

pub port_by : (k : Display) → port_of k ≡ crtc_port (misc_of k)
port_by Colour = refl
port_by Monochrome = refl

abbrev pub text_sequencer : List ℕ
text_sequencer = 0x03 ∷ 0x00 ∷ 0x03 ∷ 0x00 ∷ 0x02 ∷ []

abbrev pub text_graphics : Display → List ℕ
text_graphics k = 0x00 ∷ 0x00 ∷ 0x00 ∷ 0x00 ∷ 0x00 ∷ 0x10 ∷ window_of k ∷ 0x00 ∷ 0xFF ∷ []

abbrev pub text_setting : Display → Setting
text_setting k = record { misc = misc_of k; seq = text_sequencer; gfx = text_graphics k }

-- what a text row has from its display: the registers for memory cycles, and the port
pub record IsOfDisplay (k : Display) (mode : ℕ) (row : ModeRow) : Type 0 where
  pub misc : row.misc ≡ misc_of k
  pub sequencer : row.sequencer ≡ text_sequencer
  pub graphics : row.graphics ≡ text_graphics k
  pub port : row.crtc_address ≡ port_of k
  pub base : page_0_address_of_mode mode ≡ base_of k
  pub crtc : length row.crtc ≡ 25

-- the sizes of its characters and pages; a page has room for `half` cells
pub record HasTextPages (row : ModeRow) : Type 0 where
  pub half : ℕ
  pub some_columns : 0 < row.columns
  pub columns : row.columns ≤ 80
  pub even : row.size ≡ 2 * half
  pub fits : row.columns * (row.last_row + 1) ≤ half
  pub memory : half * row.pages ≤ 16384
  pub pages : row.pages ≤ 8
  pub last_row : row.last_row < 255

-- a text row of this display
pub record IsTextRow (k : Display) (mode : ℕ) (row : ModeRow) : Type 0 where
  pub of_display : IsOfDisplay k mode row
  pub open of_display use *
  pub has_pages : HasTextPages row
  pub open has_pages use *

-- the row that a mode set uses for a display, and the number of its mode
abbrev pub mode_row_of_display : Display → ModeRow
mode_row_of_display Colour = colour_text
mode_row_of_display Monochrome = monochrome_text

abbrev pub number_of : Display → ℕ
number_of Colour = 0x03
number_of Monochrome = 0x07

pub text_by : (k : Display) → is_text (number_of k) ≡ true
text_by Colour = refl
text_by Monochrome = refl

-- mode control without the blink bit
abbrev pub control_of : Display → ℕ
control_of Colour = 0x04
control_of Monochrome = 0x06

pub control_by : (k : Display) → bit_and (slice_index (mode_row_of_display k).attribute 0x10) 0xF7 ≡ control_of k
control_by Colour = refl
control_by Monochrome = refl

-- the heights of characters
pub data Height : Type 0 where
  Eight : Height
  Fourteen : Height
  Sixteen : Height

-- the row of a display and a height, in the text-height table and in the mode table
abbrev pub lines_of : Display → Height → HeightRow
lines_of Colour Eight = fifty_rows_underlined_at 0x1F
lines_of Colour Fourteen = twenty_eight_rows_underlined_at 0x1F
lines_of Colour Sixteen = twenty_five_rows_underlined_at 0x1F
lines_of Monochrome Eight = fifty_rows_underlined_at 0x07
lines_of Monochrome Fourteen = twenty_eight_rows_underlined_at 0x0D
lines_of Monochrome Sixteen = twenty_five_rows_underlined_at 0x0F

abbrev pub row_with : Display → Height → ModeRow
row_with k height = with_text_row (mode_row_of_display k) (lines_of k height)

pub text_blinks : (k : Display) (height : Height) → Blinks (row_with k height) 0 × Blinks (row_with k height) 1
text_blinks Colour _ = ((refl, refl), (refl, refl))
text_blinks Monochrome _ = ((refl, refl), (refl, refl))

-- the display and the height of a text mode
pub record TextRow (mode : ℕ) (row : ModeRow) : Type 0 where
  pub display : Display
  pub height : Height
  pub is : IsTextRow display mode row
  pub row_is : row ≡ row_with display height
  pub number : mode ≡ number_of display

-- each of these rows is a text row: by its display, and by how its pages lie in memory
display_by : (k : Display) (height : Height) → IsOfDisplay k (number_of k) (row_with k height)
display_by Colour _ = record { misc = refl; sequencer = refl; graphics = refl; port = refl; base = refl; crtc = refl }
display_by Monochrome _ = record { misc = refl; sequencer = refl; graphics = refl; port = refl; base = refl; crtc = refl }

-- the sizes follow from a test that is computed for a literal row
paged : (row : ModeRow) (half : ℕ) → row.size ≡ 2 * half → (nat_lt 0 row.columns && (nat_le row.columns 80 && (nat_le (row.columns * (row.last_row + 1)) half
    && (nat_le (half * row.pages) 16384 && (nat_le row.pages 8 && nat_lt row.last_row 255))))) ≡ true → HasTextPages row
paged row half even e = record {
  half = half;
  even = even;
  some_columns = grind (arith, nat_tests);
  columns = grind (arith, nat_tests);
  fits = grind (arith, nat_tests);
  memory = grind (arith, nat_tests);
  pages = grind (arith, nat_tests);
  last_row = grind (arith, nat_tests);
}

pages_by : (k : Display) (height : Height) → HasTextPages (row_with k height)
pages_by Colour Eight = paged _ 4096 refl refl
pages_by Colour Fourteen = paged _ 4096 refl refl
pages_by Colour Sixteen = paged _ 2048 refl refl
pages_by Monochrome Eight = paged _ 4096 refl refl
pages_by Monochrome Fourteen = paged _ 4096 refl refl
pages_by Monochrome Sixteen = paged _ 2048 refl refl

row_by : (k : Display) (height : Height) → IsTextRow k (number_of k) (row_with k height)
row_by k height = record { of_display = display_by k height; has_pages = pages_by k height }

-- the height of the row that the data have
record HasHeight (k : Display) (row : ModeRow) : Type 0 where
  height : Height
  is : row_with k height ≡ row

with_lines : (k : Display) (row : ModeRow) (a b f : Bool) → with_height_row (mode_row_of_display k) (if a then Some (lines_of k Eight) else if b
    then Some (lines_of k Fourteen) else if f then Some (lines_of k Sixteen) else None) ≡ Some row → HasHeight k row
with_lines k row true b f h = record { height = Eight; is = some_same (row_with k Eight) row h }
with_lines k row false true f h = record { height = Fourteen; is = some_same (row_with k Fourteen) row h }
with_lines k row false false true h = record { height = Sixteen; is = some_same (row_with k Sixteen) row h }
with_lines k row false false false h = none_some row h

of_height : (k : Display) (row : ModeRow) → HasHeight k row → TextRow (number_of k) row
of_height k row h = subst (TextRow (number_of k)) h.is (record { display = k; height = h.height; is = row_by k h.height; row_is = refl; number = refl })

pub row_of_text : (k : Display) (height : ℕ) (row : ModeRow) → mode_row_at_height (number_of k) height ≡ Some row → TextRow (number_of k) row
row_of_text Colour height row e = of_height Colour row (with_lines Colour row (height == 8) (height == 14) (height == 16) e)
row_of_text Monochrome height row e = of_height Monochrome row (with_lines Monochrome row (height == 8) (height == 14) (height == 16) e)
