-- Copying and filling the rows of a band, on any machine whose memory is flat.
use Rattle.std.proofs.Common.{◌≡◌, ◌≢◌, ℕ, ◌+◌, ◌-◌, ◌*◌, ◌%◌, ◌<◌, ◌≤◌, sym, ap, ◌∙◌, subst, arith, Bool, true, false}
use Rattle.std.specs.Prelude.{◌==◌, if◌then◌else◌}
use Rattle.vga_card.specs.Bus.{BusMeaning}
use Rattle.bios_modes.specs.declared.kind.Kind.{Kind}
use Rattle.bios_screen.proofs.Prelude.{Planar, ColumnBand, Direction, Up, Down, Window, run, put}
use Rattle.bios_modes.specs.declared.kind.Kind.TheVariants.{Text, Packed}
use Rattle.bios_services.specs.declared.filling.AlternatingBytes.{AlternatingBytes}
use Rattle.bios_services.specs.Kinds.{column_bytes}
use Rattle.bios_services.specs.Plan.{move}
use Rattle.bios_services.specs.Bands.{byte_address_in_band, filling_byte, copy_line, copy_row, move_rows, fill_line, fill_row, fill_rows}
use Rattle.bios_screen.specs.Step.{source_number}
use Rattle.bios_screen.proofs.Base.Flat.{Edited, Moved, Turn, Leaves, set_cell}
use Rattle.bios_screen.proofs.Base.Edits.{changed_edit, edits}
use Rattle.bios_screen.proofs.Base.Moves.{one_move, moves_up, moves_down}
use Rattle.bios_screen.proofs.Base.Places.{ends_before, same_place}
use Rattle.bios_screen.proofs.Base.Windows.{first_moved}

pub some_bytes : (kind : Kind) → 0 < column_bytes kind
some_bytes Text = omega arith
some_bytes Planar = omega arith
some_bytes Packed = omega arith

-- a window of a page, whose memory has `size` cells from address `base` on: the page has `rows`
-- rows of characters from cell `start` on. On each line the band covers the window's columns, with
-- a fixed number of cells for a column
pub record IsWindow (base size : ℕ) (band : ColumnBand) (start rows : ℕ) (window : Window) : Type 0 where
  pub address : band.start ≡ base + start
  pub memory : start + band.pitch * (band.lines * rows) ≤ size
  pub below : window.top + window.height ≤ rows
  pub after : band.left + band.width ≤ band.pitch
  pub left : band.left ≡ column_bytes band.kind * window.left
  pub width : band.width ≡ column_bytes band.kind * window.width
  pub wide : 0 < band.pitch
  pub high : 0 < band.lines

filled_small : (filling : AlternatingBytes) (i : ℕ) → filling.even < 256 → filling.odd < 256 → filling_byte filling i < 256
filled_small filling i e o = by_test (i % 2 == 0)
  where
    by_test : (b : Bool) → (if b then filling.even else filling.odd) < 256
    by_test true = e
    by_test false = o

module _ (S X : Type 0) (m : BusMeaning S) (base size : ℕ) (band : ColumnBand) (start rows : ℕ) (window : Window) (w : IsWindow base size band start rows window) where
  -- a cell of a line, and a cell of a row
  abbrev pub Column : Type 0
  Column = Turn (λ _. Unit {0}) 0 band.width

  abbrev pub Line : Type 0
  Line = Turn (λ _. Column) 0 band.lines

  abbrev pub place : ℕ → ℕ → ℕ → ℕ
  place row line i = start + (band.pitch * (band.lines * row + line) + (band.left + i))

  address_is : (row line i : ℕ) → byte_address_in_band band row line i ≡ base + place row line i
  address_is row line i = let e = w.address in omega arith

  within : (row line i : ℕ) → row < rows → line < band.lines → i < band.width → place row line i < size
  within row line i lr ll li =
      let a = ends_before band.lines row rows lr in
      let b = ends_before band.pitch (band.lines * row + line) (band.lines * rows) (omega arith) in
      let c = w.after in
      let e = w.memory in
      omega arith

  -- two cells are the same only if their rows and lines are
  same_line : (r a i s b j : ℕ) → a < band.lines → b < band.lines → i < band.width → j < band.width → place r a i ≡ place s b j → (r ≡ s) × (a ≡ b)
  same_line r a i s b j la lb li lj h =
      let q : band.pitch * (band.lines * r + a) + (band.left + i) ≡ band.pitch * (band.lines * s + b) + (band.left + j) = omega arith in
      let z = w.after in
      same_place band.lines r a s b la lb (same_place band.pitch (band.lines * r + a) (band.left + i) (band.lines * s + b) (band.left + j) (omega arith)
      (omega arith) q).0

  pub rows_apart : (r s : ℕ) (g h : Line) → r ≢ s → place r g.turn g.place.turn ≢ place s h.turn h.place.turn
  rows_apart r s g h o q = o (same_line r g.turn g.place.turn s h.turn h.place.turn g.before h.before g.place.before h.place.before q).0

  lines_apart : (r a b : ℕ) (g h : Column) → a < band.lines → b < band.lines → a ≢ b → place r a g.turn ≢ place r b h.turn
  lines_apart r a b g h la lb o q = o (same_line r a g.turn r b h.turn la lb g.before h.before q).1

  -- a cell of a line, as a cell of its row
  abbrev of_line : (line : ℕ) → line < band.lines → Column → Line
  of_line line l h = record { turn = line; from = omega arith; before = l; place = h }

  -- ---- rows are copied

  -- rows that move down by n, numbered by where they go
  by_target : (first count n : ℕ) (f g : ℕ → X) → Moved X (Turn (λ _. Line) first (first + count)) (λ h. place h.turn h.place.turn h.place.place.turn)
      (λ h. place (h.turn + n) h.place.turn h.place.place.turn) f g → Moved X (Turn (λ _. Line) (first + n) (first + n + count))
      (λ h. place (h.turn - n) h.place.turn h.place.place.turn) (λ h. place h.turn h.place.turn h.place.place.turn) f g
  by_target first count n f g down = record {
    inside = λ h.
        let l = h.from in
        let e = h.before in
        let back : h.turn ≡ h.turn - n + n = omega arith in
        ap (λ r. g (place r h.place.turn h.place.place.turn)) back
        ∙ down.inside (record { turn = h.turn - n; from = omega arith; before = omega arith; place = h.place });
    outside = λ x o. down.outside x (λ h.
        let l = h.from in let e = h.before in o (record { turn = h.turn + n; from = omega arith; before = omega arith; place = h.place }));
  }

  module _ (R : S → (ℕ → X) → Type 0) (moved : (i j : ℕ) (s : S) (f : ℕ → X) → i < size → j < size → R s f →
      R (run m (move (base + i) (base + j)) s).0 (set_cell f j (f i))) where
    line_copied : (from to line : ℕ) (s : S) (f : ℕ → X) → from < rows → to < rows → line < band.lines → from ≢ to → R s f →
        Leaves S X R (run m (copy_line band from to line) s).0 (Moved X Column (λ h. place from line h.turn) (λ h. place to line h.turn) f)
    unfolding copy_line
    line_copied from to line s f lf lt ll o t =
        moves_up S X m (λ i. move (byte_address_in_band band from line i) (byte_address_in_band band to line i)) R 0 band.width (λ _. Unit {0}) (λ k _. place from line k) (λ k _.
        place to line k)
        (λ x y _ _ lb lo hi. omega arith)
        (λ k x g lb hi u. record {
          cells = set_cell g (place to line k) (g (place from line k));
          shown = subst (λ a. R (run m (move a (byte_address_in_band band to line k)) x).0 (set_cell g (place to line k) (g (place from line k))))
              (sym (address_is from line k))
              (subst (λ a. R (run m (move (base + place from line k) a) x).0 (set_cell g (place to line k) (g (place from line k))))
              (sym (address_is to line k))
              (moved (place from line k) (place to line k) x g (within from line k lf ll hi) (within to line k lt ll hi) u));
          fact = one_move (place from line k) (place to line k) g;
        })
        (λ x y _ _ lb lo hi q. o (same_line from line y to line x ll ll hi (omega arith) q).0)
        band.width 0 s f (omega arith) (omega arith) t

    row_copied : (from to : ℕ) (s : S) (f : ℕ → X) → from < rows → to < rows → from ≢ to → R s f →
        Leaves S X R (run m (copy_row band from to) s).0 (Moved X Line (λ h. place from h.turn h.place.turn) (λ h. place to h.turn h.place.turn) f)
    unfolding copy_row
    row_copied from to s f lf lt o t =
        moves_up S X m (copy_line band from to) R 0 band.lines (λ _. Column) (λ line h. place from line h.turn) (λ line h. place to line h.turn)
        (λ x y g h lb lo hi. lines_apart to x y g h (omega arith) hi (omega arith))
        (λ line x g lb hi u. line_copied from to line x g lf lt hi o u)
        (λ x y g h lb lo hi. rows_apart from to (of_line y hi h) (of_line x (omega arith) g) o)
        band.lines 0 s f (omega arith) (omega arith) t

    -- the rows that get another row's contents are those from `first_moved` on
    abbrev LeavesMoved : Direction → ℕ → S → (ℕ → X) → Type 0
    LeavesMoved direction n s f = Leaves S X R (run m (move_rows band direction n window.top (window.height - n)) s).0
        (Moved X (Turn (λ _. Line) (first_moved direction window n) (first_moved direction window n + (window.height - n)))
        (λ h. place (source_number direction h.turn n) h.place.turn h.place.place.turn) (λ h. place h.turn h.place.turn h.place.place.turn) f)

    pub rows_moved : (direction : Direction) (n : ℕ) (s : S) (f : ℕ → X) → 0 < n → n ≤ window.height → R s f → LeavesMoved direction n s f
    unfolding move_rows
    rows_moved Up n s f some few t =
        let z = w.below in
        let top = window.top in
        let count = window.height - n in
        moves_up S X m (λ row. copy_row band (row + n) row) R top (top + count) (λ _. Line) (λ row h. place (row + n) h.turn h.place.turn) (λ row h.
        place row h.turn h.place.turn)
        (λ x y g h lb lo hi. rows_apart x y g h (omega arith))
        (λ row x g lb hi u. row_copied (row + n) row x g (omega arith) (omega arith) (omega arith) u)
        (λ x y g h lb lo hi. rows_apart (y + n) x h g (omega arith))
        count top s f (omega arith) (omega arith) t
    rows_moved Down n s f some few t =
        let z = w.below in
        let top = window.top in
        let count = window.height - n in
        let down = moves_down S X m (λ row. copy_row band row (row + n)) R top (top + count) (λ _. Line) (λ row h. place row h.turn h.place.turn) (λ row h.
        place (row + n) h.turn h.place.turn)
        (λ x y g h lb lo hi. rows_apart (x + n) (y + n) g h (omega arith))
        (λ row x g lb hi u. row_copied row (row + n) x g (omega arith) (omega arith) (omega arith) u)
        (λ x y g h lb lo hi. rows_apart x (y + n) g h (omega arith))
        count top s f (omega arith) (omega arith) t in
        record { cells = down.cells; shown = down.shown; fact = by_target top count n f down.cells down.fact }

  -- ---- rows are filled, on a machine where storing a byte changes one cell

  module _ (R : S → (ℕ → X) → Type 0) (made : ℕ → X → X) (stored : (j v : ℕ) (s : S) (f : ℕ → X) → j < size → v < 256 → R s f →
      R (run m (put (base + j) v) s).0 (set_cell f j (made v (f j)))) (filling : AlternatingBytes) (even : filling.even < 256) (odd : filling.odd < 256) where
    line_filled : (row line : ℕ) (s : S) (f : ℕ → X) → row < rows → line < band.lines → R s f →
        Leaves S X R (run m (fill_line band filling row line) s).0 (Edited X Column (λ h. place row line h.turn) (λ h x. made (filling_byte filling h.turn) x)
        f)
    unfolding fill_line
    line_filled row line s f lr ll t =
        edits S X m (λ i. put (byte_address_in_band band row line i) (filling_byte filling i)) (λ _. R) 0 band.width (λ _. Unit {0}) (λ k _. place row line k) (λ k _ x.
        made (filling_byte filling k) x)
        (λ x y _ _ lb lo hi. omega arith)
        (λ k x g lb hi u. record {
          cells = set_cell g (place row line k) (made (filling_byte filling k) (g (place row line k)));
          shown = subst (λ a. R (run m (put a (filling_byte filling k)) x).0 (set_cell g (place row line k) (made (filling_byte filling k)
              (g (place row line k))))) (sym (address_is row line k))
              (stored (place row line k) (filling_byte filling k) x g (within row line k lr ll hi) (filled_small filling k even odd) u);
          fact = changed_edit (place row line k) (made (filling_byte filling k)) g;
        })
        band.width 0 s f (omega arith) (omega arith) t

    row_filled : (row : ℕ) (s : S) (f : ℕ → X) → row < rows → R s f → Leaves S X R (run m (fill_row band filling row) s).0
        (Edited X Line (λ h. place row h.turn h.place.turn) (λ h x. made (filling_byte filling h.place.turn) x) f)
    unfolding fill_row
    row_filled row s f lr t =
        edits S X m (fill_line band filling row) (λ _. R) 0 band.lines (λ _. Column) (λ line h. place row line h.turn) (λ line h x.
        made (filling_byte filling h.turn) x)
        (λ x y g h lb lo hi. lines_apart row x y g h (omega arith) hi (omega arith))
        (λ line x g lb hi u. line_filled row line x g lr hi u)
        band.lines 0 s f (omega arith) (omega arith) t

    pub rows_filled : (first count : ℕ) (s : S) (f : ℕ → X) → first + count ≤ window.top + window.height → R s f →
        Leaves S X R (run m (fill_rows band filling first count) s).0 (Edited X (Turn (λ _. Line) first (first + count)) (λ h.
        place h.turn h.place.turn h.place.place.turn) (λ h x. made (filling_byte filling h.place.place.turn) x) f)
    unfolding fill_rows
    rows_filled first count s f fits t =
        let z = w.below in
        edits S X m (fill_row band filling) (λ _. R) first (first + count) (λ _. Line) (λ row h. place row h.turn h.place.turn) (λ row h x.
        made (filling_byte filling h.place.turn) x)
        (λ x y g h lb lo hi. rows_apart x y g h (omega arith))
        (λ row x g lb hi u. row_filled row x g (omega arith) u)
        count first s f (omega arith) (omega arith) t
