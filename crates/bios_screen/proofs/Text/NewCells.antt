-- Services that change only cells: from cells known one by one to the next screen.
use Rattle.std.proofs.Common.{◌≡◌, ℕ, ◌<◌, sym, ap, ◌∙◌, List, Some}
use Rattle.bios_screen.proofs.Prelude.{CardState, BiosData, ModeRow, list_by_function, Cell, cell_in, text_memory_cells, shown}
use Rattle.bios_screen.specs.Screen.{missing_cell, cell_of}
use Rattle.bios_screen.specs.Shown.{cells_in, shows, text_screen_with_cells}
use Rattle.bios_screen.specs.Step.{with_cells, cell_on}
use Rattle.bios_screen.proofs.Base.Lists.{same_from_0, length_listing, listed_at}
use Rattle.bios_screen.proofs.Modes.TextModes.{Display}
use Rattle.bios_screen.proofs.Text.Memory.{without_text}
use Rattle.bios_screen.proofs.Text.Cells.{IsCells, cells_are}
use Rattle.bios_screen.proofs.Shows.Screens.{IsShown, screen_shown, tests_of, test_of, shown_of}

-- cell k of the list is cell k of the planes
pub cells_at : (p0 p1 : List ℕ) (n k : ℕ) → k < n → cell_of (cells_in p0 p1 n) k ≡ cell_in p0 p1 k
unfolding cells_in
cells_at p0 p1 n k l = listed_at (cell_in p0 p1) n k missing_cell l

-- the test does not depend on the cells
pub test_stays : (row : ModeRow) (c y : CardState) (d : BiosData) → without_text y ≡ without_text c → shows row y d ≡ shows row c d
unfolding shows
test_stays row c y d e = ap (λ x. shows row x d) e

-- if only text has changed, the screen has the cells that are now in memory
cells_shown : (c y : CardState) (d : BiosData) (h : IsShown c d) → without_text y ≡ without_text c →
    shown y d ≡ Some (text_screen_with_cells h.row c d (cells_in y.host.memory.plane0 y.host.memory.plane1 text_memory_cells))
cells_shown c y d h others =
    shown_of y d h.row h.mode (tests_of h.row y d h.tests.is_text (test_stays h.row c y d others ∙ test_of h.row c d h.tests))
    ∙ ap (λ x. Some (text_screen_with_cells h.row x d (cells_in y.host.memory.plane0 y.host.memory.plane1 text_memory_cells))) others

-- if memory has new cells, the screen with these is shown
pub renewed_shown : (disp : Display) (rest c y : CardState) (d : BiosData) (h : IsShown c d) (new : (ℕ → Cell) → ℕ → Cell) (g : ℕ → Cell) →
    without_text y ≡ without_text c → IsCells disp rest y g → ((k : ℕ) → k < 16384 → g k ≡ new (cell_on (screen_shown c d h)) k) →
    shown y d ≡ Some (with_cells (screen_shown c d h) new)
unfolding cells_in
renewed_shown disp rest c y d h new g others t e =
    let m = c.host.memory in
    let cells = new (cell_on (screen_shown c d h)) in
    cells_shown c y d h others ∙ ap (λ l. Some (text_screen_with_cells h.row c d l))
    (same_from_0 cells (cell_in y.host.memory.plane0 y.host.memory.plane1) text_memory_cells (λ k l. cells_are disp rest y g k l t ∙ e k l)
    ∙ ap (list_by_function cells 0) (sym (length_listing (cell_in m.plane0 m.plane1) 0 text_memory_cells)))

-- if no cell has changed, the same screen is shown
pub same_shown : (disp : Display) (rest c y : CardState) (d : BiosData) (h : IsShown c d) (g : ℕ → Cell) → without_text y ≡ without_text c →
    IsCells disp rest y g → ((k : ℕ) → k < 16384 → g k ≡ cell_in c.host.memory.plane0 c.host.memory.plane1 k) → shown y d ≡ Some (screen_shown c d h)
unfolding cells_in
same_shown disp rest c y d h g others t e =
    cells_shown c y d h others ∙ ap (λ l. Some (text_screen_with_cells h.row c d l))
    (same_from_0 (cell_in c.host.memory.plane0 c.host.memory.plane1) (cell_in y.host.memory.plane0 y.host.memory.plane1) text_memory_cells (λ k l.
    cells_are disp rest y g k l t ∙ e k l))
