-- Scrolling a window of text, from one screen to the next.
use Rattle.std.proofs.Common.{◌≡◌, ℕ, ◌+◌, ◌-◌, ◌*◌, ◌/◌, ◌%◌, ◌<◌, ◌≤◌, refl, sym, ap, ◌∙◌, subst, arith, Some, true, false}
use Rattle.std.specs.Prelude.{◌==◌, ◌&&◌, nat_le, if◌then◌else◌}
use Rattle.std.proofs.lemmas.Bool.Decides.{nat_tests}
use Rattle.std.proofs.lemmas.Nat.{mod_below}
use Rattle.bios_screen.proofs.Prelude.{IsCard, card_meaning, CardState, BiosData, ColumnBand, Direction, Up, Down, Window, run, Screen, text_memory_cells, shown}
use Rattle.bios_modes.specs.declared.kind.Kind.TheVariants.{Text}
use Rattle.bios_services.specs.Bands.{filling_byte, blank_cells_filling, scroll_rows, fill_plan, band_of_kind}
use Rattle.bios_services.specs.Scroll.{IsOnPage, scroll_window_plan}
use Rattle.bios_screen.specs.Screen.{page_start}
use Rattle.bios_screen.specs.Step.{row_of_cell_on_page, column_of_cell_on_page, is_in_window, has_source_row, source_number, scroll_cells, scroll_window, cell_on}
use Rattle.bios_screen.proofs.Base.Flat.{Leaves}
use Rattle.bios_screen.proofs.Base.Places.{twice, rows_further, row_and_column}
use Rattle.bios_screen.proofs.Base.CellPlaces.{over, rest}
use Rattle.bios_screen.proofs.Base.Tests.{both_true, le_is, le_test}
use Rattle.bios_screen.proofs.Base.Windows.{inside_of, by_both_tests}
use Rattle.bios_screen.proofs.Base.Bands.{IsWindow}
use Rattle.bios_screen.proofs.Base.Shifts as shifts
use Rattle.bios_screen.proofs.Modes.TextModes.{base_of}
use Rattle.bios_screen.proofs.Shows.Screens.{IsShown, screen_shown, kind_is}
use Rattle.bios_screen.proofs.Text.Memory.{IsTextual, without_text, text_put}
use Rattle.bios_screen.proofs.Text.Reads.{text_get}
use Rattle.bios_screen.proofs.Text.Cells.{has_bytes, woven, woven_even, woven_odd, cells_of_bytes, same_pair, same_cell, blank_cell, bytes_are_cells}
use Rattle.bios_screen.proofs.Text.NewCells.{cells_at, renewed_shown}
use Rattle.bios_screen.proofs.Text.Writes.{lies}

pub page_fits : (c : CardState) (d : BiosData) (h : IsShown c d) (p : ℕ) → p < h.row.pages →
    page_start (screen_shown c d h) p + d.columns * (d.last_row + 1) ≤ 16384
page_fits c d h p lp = let z = lies c d h in let a = z.fits in let b = z.within p lp in omega arith

module _ (c : CardState) (d : BiosData) (h : IsShown c d) (p : ℕ) (lp : p < h.row.pages) (w : Window) (on : IsOnPage (d.last_row + 1) d.columns w)
    (direction : Direction) (n attribute : ℕ) where
  abbrev s : Screen
  s = screen_shown c d h

  -- the first cell of the page
  abbrev first : ℕ
  first = page_start s p

  some_columns : 0 < d.columns
  some_columns = let a = h.has.columns in let b = h.text.some_columns in omega arith

  -- the band of the window: a cell is two bytes, and a row is one line
  abbrev band : ColumnBand
  band = band_of_kind Text d p w.left w.width

  page_bytes : d.size * p ≡ 2 * first
  page_bytes = (lies c d h).even p

  window : IsWindow (base_of h.display) 32768 band (d.size * p) (d.last_row + 1) w
  window = record {
    address = ap (λ b. b + d.size * p) (lies c d h).base;
    memory =
        let a = page_bytes in
        let b = page_fits c d h p lp in
        let one : 1 * (d.last_row + 1) ≡ d.last_row + 1 = omega arith in
        let e = ap (λ n. 2 * d.columns * n) one ∙ twice d.columns (d.last_row + 1) in
        omega arith;
    below = on.below;
    after = let a = on.after in omega arith;
    left = refl;
    width = refl;
    wide = let a = some_columns in omega arith;
    high = omega arith;
  }

  -- ---- what the plan leaves in the bytes

  abbrev Textual : CardState → (ℕ → ℕ) → Type 0
  Textual = IsTextual h.display (without_text c)

  byte_read : (i : ℕ) (x : CardState) (f : ℕ → ℕ) → i < 32768 → Textual x f → shifts.IsRead CardState card_meaning Textual (base_of h.display + i) x f (f i)
  byte_read i x f l t = let read = text_get h.display (without_text c) x f i l t in
      record { still = read.text; answer = read.answer; small = t.small i l }

  abbrev IsScrolled : (ℕ → ℕ) → (ℕ → ℕ) → Type 0
  IsScrolled = shifts.IsScrolled ℕ (base_of h.display) 32768 band (d.size * p) (d.last_row + 1) w window direction n (λ i _. filling_byte (blank_cells_filling attribute) i)

  scrolls : 0 < n → n ≤ w.height → attribute < 256 → (x : CardState) (f : ℕ → ℕ) → Textual x f →
      Leaves CardState ℕ Textual (run card_meaning (scroll_rows band direction w.top w.height n attribute) x).0 (IsScrolled f)
  unfolding scroll_rows fill_plan
  scrolls some few la x f t = shifts.filled_once CardState card_meaning (base_of h.display) 32768 band (d.size * p) (d.last_row + 1) w window Textual byte_read
      (λ j v y g lj lv u. text_put h.display (without_text c) y g j v lj lv u) (blank_cells_filling attribute) (omega arith) la direction n x f some few t

  -- ---- the cells of the bytes

  -- byte j of cell k, as a byte of the page
  abbrev byte_of : ℕ → ℕ → ℕ
  byte_of k j = 2 * (k - first) + j

  byte_at : (k j : ℕ) → first ≤ k → d.size * p + byte_of k j ≡ 2 * k + j
  byte_at k j l = let a = page_bytes in omega arith

  byte_split : (k j : ℕ) → byte_of k j ≡ 2 * d.columns * row_of_cell_on_page s p k + (2 * column_of_cell_on_page s p k + j)
  byte_split k j = let a = row_and_column d.columns (k - first) some_columns in let z = twice d.columns (row_of_cell_on_page s p k) in omega arith

  byte_row : (k j : ℕ) → j < 2 → byte_of k j / (2 * d.columns) / 1 ≡ row_of_cell_on_page s p k
  byte_row k j l =
      let b = mod_below (k - first) d.columns some_columns in
      let g = ap (λ x. x / (2 * d.columns)) (byte_split k j) ∙ over (2 * d.columns) (row_of_cell_on_page s p k) (2 * column_of_cell_on_page s p k + j) (omega arith) in
      omega arith

  byte_column : (k j : ℕ) → j < 2 → byte_of k j % (2 * d.columns) ≡ 2 * column_of_cell_on_page s p k + j
  byte_column k j l = let b = mod_below (k - first) d.columns some_columns in
      ap (λ x. x % (2 * d.columns)) (byte_split k j) ∙ rest (2 * d.columns) (row_of_cell_on_page s p k) (2 * column_of_cell_on_page s p k + j) (omega arith)

  byte_test : (k j : ℕ) → j < 2 → is_in_window w (byte_of k j / (2 * d.columns) / 1) (byte_of k j % (2 * d.columns) / 2)
      ≡ is_in_window w (row_of_cell_on_page s p k) (column_of_cell_on_page s p k)
  byte_test k j l =
      let half : byte_of k j % (2 * d.columns) / 2 ≡ column_of_cell_on_page s p k = let q = byte_column k j l in omega arith in
      ap (is_in_window w (byte_of k j / (2 * d.columns) / 1)) half ∙ ap (λ r. is_in_window w r (column_of_cell_on_page s p k)) (byte_row k j l)

  -- how many bytes n rows of a page have
  rows_bytes : 2 * d.columns * (1 * n) ≡ 2 * (d.columns * n)
  rows_bytes = let one : 1 * n ≡ n = omega arith in ap (λ x. 2 * d.columns * x) one ∙ twice d.columns n

  -- the byte that byte j of cell k gets, counted in the page and counted in the cells of memory
  byte_source : (way : Direction) (k j : ℕ) → first ≤ k → has_source_row way w n (row_of_cell_on_page s p k) ≡ true →
      d.size * p + source_number way (byte_of k j) (2 * d.columns * (1 * n)) ≡ 2 * source_number way k (d.columns * n) + j
  byte_source Up k j low t = let a = page_bytes in let b = rows_bytes in omega arith
  byte_source Down k j low t =
      let a = page_bytes in
      let b = rows_bytes in
      let l = le_is (w.top + n) (row_of_cell_on_page s p k) t in
      let e = rows_further d.columns (row_of_cell_on_page s p k - n) n in
      let back : row_of_cell_on_page s p k - n + n ≡ row_of_cell_on_page s p k = omega arith in
      let g = ap (λ r. d.columns * r) back in
      let x = row_and_column d.columns (k - first) some_columns in
      omega arith

  cell_source : (k : ℕ) → first ≤ k → is_in_window w (row_of_cell_on_page s p k) (column_of_cell_on_page s p k) ≡ true → has_source_row direction w n (row_of_cell_on_page s p k) ≡ true →
      source_number direction k (d.columns * n) < 16384
  cell_source k low u m =
      let a = byte_source direction k 0 low m in
      let b = shifts.source_within ℕ (base_of h.display) 32768 band (d.size * p) (d.last_row + 1) w window direction (byte_of k 0) n
      (byte_test k 0 (omega arith) ∙ u) (ap (has_source_row direction w n) (byte_row k 0 (omega arith)) ∙ m) in
      let e = window.memory in
      omega arith

  blank_byte : (q j : ℕ) → j < 2 → filling_byte (blank_cells_filling attribute) (2 * q + j) ≡ (if j == 0 then 0x20 else attribute)
  blank_byte q j l = let e : ((2 * q + j) % 2 == 0) ≡ (j == 0) = grind (arith, nat_tests) in ap (λ b. if b then 0x20 else attribute) e

  cells_scrolled : (f g : ℕ → ℕ) → IsScrolled f g → ((k : ℕ) → k < 16384 → cell_on s k ≡ cells_of_bytes f k) → (k : ℕ) → k < 16384 →
      cells_of_bytes g k ≡ scroll_cells s p w direction n attribute (cell_on s) k
  cells_scrolled f g is old k l =
      let row = row_of_cell_on_page s p k in
      let column = column_of_cell_on_page s p k in
      let within = is_in_window w row column in
      by_both_tests (nat_le first k && within) (has_source_row direction w n row) (cells_of_bytes g k) (cell_on s (source_number direction k (d.columns * n)))
      (0x20, attribute) (cell_on s k)
      (λ t m.
      let both = both_true (nat_le first k) within t in
      let low = le_is first k both.0 in
      same_cell g f k (source_number direction k (d.columns * n)) (λ j lj.
      ap g (sym (byte_at k j low)) ∙ is.moved (byte_of k j) (byte_test k j lj ∙ both.1) (ap (has_source_row direction w n) (byte_row k j lj) ∙ m)
      ∙ ap f (byte_source direction k j low m))
      ∙ sym (old (source_number direction k (d.columns * n)) (cell_source k low both.1 m)))
      (λ t m.
      let both = both_true (nat_le first k) within t in
      let low = le_is first k both.0 in
      blank_cell g attribute k (λ j lj.
      let new = is.filled (byte_of k j) (byte_test k j lj ∙ both.1) (ap (has_source_row direction w n) (byte_row k j lj) ∙ m) in
      let at : byte_of k j % (2 * d.columns) - 2 * w.left ≡ 2 * (column - w.left) + j = let q = byte_column k j lj in
      let b = (inside_of w row column both.1).before in omega arith in
      ap g (sym (byte_at k j low)) ∙ new.is ∙ ap (filling_byte (blank_cells_filling attribute)) at ∙ blank_byte (column - w.left) j lj))
      (λ t.
      same_cell g f k k (λ j lj. is.outside (2 * k + j) (λ b e.
      let a = page_bytes in
      let low : first ≤ k = omega arith in
      let same : byte_of k j ≡ b = omega arith in
      subst (λ i. is_in_window w (i / (2 * d.columns) / 1) (i % (2 * d.columns) / 2) ≡ false) same
      (byte_test k j lj ∙ ap (λ x. x && within) (sym (le_test first k low)) ∙ t)))
      ∙ sym (old k l))

  pub window_shown : IsCard c → 0 < n → n ≤ w.height → attribute < 256 → shown (run card_meaning (scroll_window_plan d p w direction n attribute) c).0 d
      ≡ Some (scroll_window s p w direction n attribute)
  window_shown z some few la =
      let m = c.host.memory in
      let f = woven m.plane0 m.plane1 in
      let y = (run card_meaning (scroll_rows band direction w.top w.height n attribute) c).0 in
      let done = scrolls some few la c f (has_bytes h.display c h.setting z.host) in
      ap (λ k. shown (run card_meaning (scroll_rows (band_of_kind k d p w.left w.width) direction w.top w.height n attribute) c).0 d) (kind_is c d h)
      ∙ renewed_shown h.display (without_text c) c y d h (scroll_cells s p w direction n attribute) (cells_of_bytes done.cells) done.shown.others
      (bytes_are_cells h.display (without_text c) y done.cells done.shown)
      (cells_scrolled f done.cells done.fact (λ k l. cells_at m.plane0 m.plane1 text_memory_cells k l
      ∙ same_pair (woven_even m.plane0 m.plane1 k) (woven_odd m.plane0 m.plane1 k)))
