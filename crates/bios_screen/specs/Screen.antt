-- A plain screen: what a program sees that uses only the video BIOS, and no register or address.
-- From the IBM PS/2 and PC BIOS Interface Technical Reference, "Interrupt 10H - Video".
use Rattle.std.specs.Prelude.{ℕ, ◌+◌, ◌*◌, Bool, List, get_or, slice_index}
use Rattle.bios_services.specs.Cursor.{row_of_position, column_of_position}

-- a cell of text: its character and its attribute
abbrev pub Cell : Type 0
Cell = ℕ × ℕ

-- the contents of a screen: the cells of text, page after page, or the pixels of each page, line
-- after line
pub data Contents : Type 0 where
  Cells : List Cell → Contents
  Pixels : List (List ℕ) → Contents

-- how the contents are laid out: columns and rows of characters on a page, scan lines of a
-- character, the number of cells from the beginning of a page to the next, which is 0 for pixels,
-- and the number of pages
pub record Layout : Type 0 where
  pub columns : ℕ
  pub rows : ℕ
  pub height : ℕ
  pub distance : ℕ
  pub pages : ℕ

-- the colours: sixteen palette values, red, green and blue of the DAC's entries, and the mask of
-- entry numbers
pub record Palette : Type 0 where
  pub values : List ℕ
  pub reds : List ℕ
  pub greens : List ℕ
  pub blues : List ℕ
  pub mask : ℕ

-- a screen. Each page has a cursor position, with the row as high byte and the column as low one;
-- the cursor's type has its first scan line as high byte and its last as low one; glyphs have
-- sixteen bytes a character, top row first, and a screen of pixels has none
pub record Screen : Type 0 where
  pub mode : ℕ
  pub layout : Layout
  pub contents : Contents
  pub places : List ℕ
  pub cursor_type : ℕ
  pub page : ℕ
  pub palette : Palette
  pub overscan : ℕ
  pub is_blink : Bool
  pub glyphs : List ℕ
  pub frame : ℕ

-- the cell that stands for one that is not there
abbrev pub missing_cell : Cell
missing_cell = (0, 0)

-- cell k of a list
abbrev pub cell_of : List Cell → ℕ → Cell
cell_of cells k = get_or cells k missing_cell

-- how many cells a page shows
abbrev pub page_cells : Screen → ℕ
page_cells s = s.layout.columns * s.layout.rows

-- the number of a page's first cell
abbrev pub page_start : Screen → ℕ → ℕ
page_start s page = s.layout.distance * page

-- the number of the cell at a position, counted along the rows of its page
abbrev pub cell_number_of_position : Screen → ℕ → ℕ
cell_number_of_position s position = s.layout.columns * row_of_position position + column_of_position position

-- the cursor's position on a page
abbrev pub cursor_position : Screen → ℕ → ℕ
cursor_position s page = slice_index s.places page

-- the number of the cell at a page's cursor, counted from the first cell of page 0
abbrev pub cursor_cell_on_screen : Screen → ℕ → ℕ
cursor_cell_on_screen s page =
    page_start s page + cell_number_of_position s (cursor_position s page)
