-- The cells of the active page as text.
use Rattle.std.specs.Prelude.{ℕ, zero, suc, ◌+◌, ◌*◌, ◌≤◌, ◌==◌, if◌then◌else◌, List, [], ◌∷◌, ◌++◌}
use Rattle.std.specs.Prelude.{codes, Option, Some, None, Result, Ok, Err}
use Rattle.vga_bits.specs.declared.refusal.Refusal.{Refusal}
use Rattle.vga_bits.specs.declared.refusal.Refusal.TheVariants.{NoMode, WrongKind}
use Rattle.vga_bits.specs.Hex.{two_hex_digits}
use Rattle.vga_planes.specs.Planes.{byte_at}
use Rattle.vga_card.specs.Card.{CardState}
use Rattle.bios_modes.specs.Bda.{BiosData}
use Rattle.bios_modes.specs.Kinds.{is_text}
use Rattle.vga_show.specs.Lines.{dump_line, four_hex_digits_each}

-- why there are no cells: no mode is set, or the mode is a graphics mode
abbrev pub cells_refusal : ℕ → Option Refusal
cells_refusal mode = if mode == 0 then Some NoMode else if is_text mode then None
    else Some WrongKind

-- cell k of the active page: its character, from plane 0, in the high byte, and its attribute, from
-- plane 1, in the low byte
abbrev pub cell_of_active_page : CardState → BiosData → ℕ → ℕ
cell_of_active_page card bda k = 256 * byte_at card.host.memory 0 (bda.size * bda.page + 2 * k)
    + byte_at card.host.memory 1 (bda.size * bda.page + 2 * k)

-- the word row, the row's number and a colon, and the cells of its columns
abbrev pub row_text : CardState → BiosData → ℕ → List ℕ
row_text card bda row = dump_line (codes "row") ((two_hex_digits row ++ codes ":")
    ∷ four_hex_digits_each (cell_of_active_page card bda) (bda.columns * row) bda.columns)

-- the lines of n rows, from this one on
unfoldable pub rows_text : CardState → BiosData → ℕ → ℕ → List ℕ
rows_text card bda zero row = []
rows_text card bda (suc n) row = row_text card bda row ++ rows_text card bda n (row + 1)

-- the lines of all rows, or nothing if there are no cells
abbrev pub cells_text : Option Refusal → CardState → BiosData → List ℕ
cells_text None card bda = rows_text card bda (bda.last_row + 1) 0
cells_text (Some why) card bda = []

-- what the dump answers
abbrev pub cells_answer : Option Refusal → Result (Unit {0}) Refusal
cells_answer None = Ok tt
cells_answer (Some why) = Err why

-- the cells of the active page lie within the planes
pub record CellsLieWithinPlanes (bda : BiosData) : Type 0 where
  pub columns : bda.columns ≤ 80
  pub cells : 2 * (bda.columns * (bda.last_row + 1)) ≤ bda.size
  pub memory : bda.size * bda.page + bda.size ≤ 32768
