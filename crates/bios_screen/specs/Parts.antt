-- The parts of a plain screen that its readers answer.
use Rattle.std.specs.Prelude.{ℕ, ◌≡◌, ◌+◌, ◌*◌, ◌≤◌, ◌&&◌, nat_lt, true, false, if◌then◌else◌, List}
use Rattle.std.specs.Prelude.{[], get_or, slice_index, Option, Some, None}
use Rattle.bios_modes.specs.Kinds.{is_text}
use Rattle.bios_services.specs.Cursor.{row_of_position, column_of_position}
use Rattle.bios_screen.specs.Listing.{list_by_function}
use Rattle.bios_screen.specs.Screen.{Cell, Contents, Cells, Pixels, Layout, Screen, cell_of}
use Rattle.bios_screen.specs.Screen.{page_start, cursor_position}

-- cell k of text; pixels have none
abbrev pub text_cell : Contents → ℕ → Option Cell
text_cell (Cells cells) k = Some (cell_of cells k)
text_cell (Pixels pages) k = None

-- the cell of a page at a row and a column, if there is one
abbrev pub cell_at : Screen → ℕ → ℕ → ℕ → Option Cell
cell_at s page row column =
    if nat_lt page s.layout.pages && (nat_lt row s.layout.rows && nat_lt column s.layout.columns)
    then text_cell s.contents (page_start s page + (s.layout.columns * row + column))
    else None

-- pixel k of a page; text has none
abbrev pub page_pixel : Contents → ℕ → ℕ → Option ℕ
page_pixel (Cells cells) page k = None
page_pixel (Pixels pages) page k = Some (slice_index (get_or pages page []) k)

-- the pixel of a page at column x of line y, if there is one
abbrev pub pixel_at : Screen → ℕ → ℕ → ℕ → Option ℕ
pixel_at s page x y =
    if nat_lt page s.layout.pages && (nat_lt x (8 * s.layout.columns)
    && nat_lt y (s.layout.height * s.layout.rows))
    then page_pixel s.contents page (8 * s.layout.columns * y + x)
    else None

-- row and column of the cursor on a page, if the page is one of eight
abbrev pub cursor_at : Screen → ℕ → Option (ℕ × ℕ)
cursor_at s page = if nat_lt page 8 then Some (
  row_of_position (cursor_position s page),
  column_of_position (cursor_position s page),
) else None

-- the pixels of each of count pages, cut from one list with n pixels for a page
unfoldable pub cut_pages : List ℕ → ℕ → ℕ → List (List ℕ)
cut_pages pixels n pages =
    list_by_function (λ p. list_by_function (λ k. slice_index pixels (n * p + k)) 0 n) 0 pages

-- how many pixels a page has
abbrev pub pixel_count : Layout → ℕ
pixel_count l = 8 * l.columns * (l.height * l.rows)

-- the contents of a screen in a mode: cells or pixels
abbrev pub cells_or_pixels_of_mode : ℕ → Layout → List Cell → List ℕ → Contents
cells_or_pixels_of_mode mode l cells pixels = if is_text mode then Cells cells
    else Pixels (cut_pages pixels (pixel_count l) l.pages)

-- the layout fits the numbers of cells and pixels: in text the pages lie one after another within
-- the cells; in graphics the pages have all the pixels
pub record LayoutFitsContents (mode : ℕ) (l : Layout) (cell_number_at pixel_number : ℕ) : Type 0 where
  pub page : is_text mode ≡ true → l.columns * l.rows ≤ l.distance
  pub cells : is_text mode ≡ true → l.distance * l.pages ≤ cell_number_at
  pub pixels : is_text mode ≡ false → pixel_number ≡ pixel_count l * l.pages
