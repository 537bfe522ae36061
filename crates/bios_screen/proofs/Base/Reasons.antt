-- What is known if a call is not refused.
use Rattle.std.proofs.Common.{◌≡◌, ℕ, ◌+◌, ◌<◌, ◌≤◌, None}
use Rattle.std.specs.Prelude.{nat_lt, nat_le}
use Rattle.vga_bits.specs.declared.refusal.Refusal.TheVariants.{BadPage, Outside, CountPast}
use Rattle.bios_services.specs.Cursor.{row_of_position, column_of_position}
use Rattle.bios_services.specs.Reasons.{◌or◌, no_page, outside_cells, outside_page, past_cells}
pub use Rattle.bios_services.proofs.ReasonLemmas.{neither, holds, wrong_or, block_fits}
use Rattle.bios_screen.proofs.Base.Tests.{both_true, lt_is, le_is}
use Rattle.bios_screen.proofs.Base.TypedPlaces.{Inside}

-- the mode has the page, and the position is on the page
pub page_allowed : (pages page : ℕ) → no_page pages page ≡ None → page < pages
page_allowed pages page e = lt_is page pages (holds (nat_lt page pages) BadPage e)

pub place_allowed : (rows columns place : ℕ) → outside_page rows columns place ≡ None → Inside rows columns place
place_allowed rows columns place e =
    let both = both_true (nat_lt (row_of_position place) rows) (nat_lt (column_of_position place) columns) (holds _ Outside e) in
    record { row = lt_is (row_of_position place) rows both.0; column = lt_is (column_of_position place) columns both.1 }

-- the mode has the page, and the page has the cell, or all cells of a run from it on
pub cell_allowed : (pages page at cells : ℕ) → (no_page pages page or outside_cells cells at) ≡ None → (page < pages) × (at < cells)
cell_allowed pages page at cells e =
    let both = neither (no_page pages page) (outside_cells cells at) e in
    (page_allowed pages page both.0, lt_is at cells (holds (nat_lt at cells) Outside both.1))

pub cells_allowed : (pages page at count cells : ℕ) → (no_page pages page or outside_cells cells at or past_cells cells at count) ≡ None →
    (page < pages) × (at + count ≤ cells)
cells_allowed pages page at count cells e =
    let both = neither (no_page pages page) (outside_cells cells at or past_cells cells at count) e in
    let past = neither (outside_cells cells at) (past_cells cells at count) both.1 in
    (page_allowed pages page both.0, le_is (at + count) cells (holds (nat_le (at + count) cells) CountPast past.1))
