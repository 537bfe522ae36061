-- Frames that bring the caller's words up to date.
use Rattle.std.specs.Prelude.{◌≡◌, ◌+◌, ◌-◌, ◌*◌, ◌<◌, ◌≤◌, ℕ, List, length, slice_index, true}
use Rattle.vga_card.specs.Picture.{most_dots_of_a_line, most_lines_of_a_frame}
use Rattle.vga_c.specs.declared.forms.Form.{Form}
use Rattle.vga_c.specs.declared.forms.WordPicture.{WordPicture}
use Rattle.vga_c.specs.declared.updates.Rows.{Rows}
use Rattle.vga_c.specs.Forms.{IsForm, div_ceil}
use Rattle.vga_c.specs.Handle.{HandleState}

-- a picture of so many dots fits a buffer of `len` words, in a form and at a pitch
pub record FitsBuffer (bytes : List ℕ) (width height : ℕ) (form : Form)
    (pitch len : ℕ) : Type 0 where
  pub is_form : IsForm form
  pub few_dots : width ≤ most_dots_of_a_line
  pub few_lines : height ≤ most_lines_of_a_frame
  pub dots : length bytes ≡ 3 * (width * height)
  pub row_fits : div_ceil width form.across ≤ pitch
  pub room : pitch * div_ceil height form.down ≤ len

-- row y of a buffer has the words of row y of a picture
abbrev pub IsRowOfWords : ℕ → ℕ → (ℕ → ℕ → ℕ) → List ℕ → ℕ → Type 0
IsRowOfWords width pitch word buffer y = (x : ℕ) → x < width → slice_index buffer (pitch * y + x) ≡ word x y

-- row y of a buffer is what it was
abbrev pub IsRowKept : ℕ → ℕ → List ℕ → List ℕ → ℕ → Type 0
IsRowKept width pitch old new y = (x : ℕ) → x < width →
    slice_index new (pitch * y + x) ≡ slice_index old (pitch * y + x)

-- The rows before these and behind them are what they were. The first and the last of these are
-- not. If there are none, the first is called 0.
pub record AreChangedRows (width height pitch : ℕ) (old new : List ℕ) (rows : Rows) : Type 0 where
  pub before : (y : ℕ) → y < rows.first → IsRowKept width pitch old new y
  pub behind : (y : ℕ) → rows.first + rows.count ≤ y → y < height → IsRowKept width pitch old new y
  pub first : 0 < rows.count → ¬ (IsRowKept width pitch old new rows.first)
  pub last : 0 < rows.count → ¬ (IsRowKept width pitch old new (rows.first + rows.count - 1))
  pub within : rows.first + rows.count ≤ height
  pub none : rows.count ≡ 0 → rows.first ≡ 0

-- if there is a picture and room for it, the caller is told which of its rows have changed;
-- otherwise the caller's rows are unchanged
abbrev pub TellsChangedRows : ℕ → WordPicture → List ℕ → List ℕ → Rows → Rows → ℕ → Type 0
TellsChangedRows pitch told old new rows_old rows status =
    (status ≡ 0 → AreChangedRows told.width told.height pitch old new rows)
    × (¬ (status ≡ 0) → rows ≡ rows_old)

-- an open card does so
abbrev pub OpenCardTellsChangedRows : HandleState → ℕ → WordPicture → List ℕ → List ℕ → Rows → Rows →
    ℕ → Type 0
OpenCardTellsChangedRows card pitch told old new rows_old rows status =
    card.is_open ≡ true → TellsChangedRows pitch told old new rows_old rows status
