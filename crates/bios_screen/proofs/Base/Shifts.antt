-- A window of a flat memory whose rows were moved and then filled, cell by cell, for any sizes.
use Rattle.std.proofs.Common.{◌≡◌, ◌≢◌, ℕ, ◌+◌, ◌-◌, ◌*◌, ◌/◌, ◌%◌, ◌<◌, ◌≤◌, refl, sym, ap, ◌∙◌, subst, arith, Bool, true, false}
use Rattle.std.proofs.Math.Nat.{mod-lt, div-lt_iff_lt-mul, le-div_iff_mul-le}
use Rattle.vga_card.specs.Bus.{BusMeaning}
use Rattle.bios_screen.proofs.Prelude.{ColumnBand, Direction, Up, Down, Window, run, put, get, ◌>>◌}
use Rattle.bios_services.specs.declared.filling.AlternatingBytes.{AlternatingBytes}
use Rattle.bios_services.specs.Bands.{filling_byte, move_rows, fill_rows}
use Rattle.bios_services.specs.Kinds.{column_bytes}
use Rattle.bios_services.specs.Plan.{move}
use Rattle.bios_screen.specs.Step.{is_in_window, has_source_row, source_number}
use Rattle.bios_screen.proofs.Base.Flat.{Edited, Moved, Turn, Leaves, set_cell}
use Rattle.bios_screen.proofs.Base.Plans.{run_bind}
use Rattle.bios_screen.proofs.Base.Places.{row_and_column}
use Rattle.bios_screen.proofs.Base.CellPlaces.{over, rest, within_rows, moved_within}
use Rattle.bios_screen.proofs.Base.Tests.{lt_is, le_is}
use Rattle.bios_screen.proofs.Base.Windows.{inside_of, inside_test, contrary, first_moved, first_new, parts}
use Rattle.bios_screen.proofs.Base.Bands.{IsWindow, some_bytes}
use Rattle.bios_screen.proofs.Base.Bands as bands

-- W cells make a line, and H lines a row; the window has `width` cells of each line from `left` on
module _ (X : Type 0) (base size : ℕ) (band : ColumnBand) (start rows : ℕ) (window : Window) (w : IsWindow base size band start rows window) where
  abbrev W : ℕ
  W = band.pitch

  abbrev H : ℕ
  H = band.lines

  abbrev pub place : ℕ → ℕ → ℕ → ℕ
  place row line i = start + (W * (H * row + line) + (band.left + i))

  abbrev row : ℕ → ℕ
  row b = b / W / H

  abbrev line : ℕ → ℕ
  line b = b / W % H

  abbrev column : ℕ → ℕ
  column b = b % W

  abbrev pub Rows : ℕ → ℕ → Type 0
  Rows first e = Turn (λ _. Turn (λ _. Turn (λ _. Unit {0}) 0 band.width) 0 H) first e

  abbrev pub at : {first e : ℕ} → Rows first e → ℕ
  at h = place h.turn h.place.turn h.place.place.turn

  -- whether cell b of the page lies in the window
  abbrev pub in_this_window : ℕ → Bool
  in_this_window b = is_in_window window (b / band.pitch / band.lines) (b % band.pitch / column_bytes band.kind)

  record IsIn (b : ℕ) : Type 0 where
    above : window.top ≤ row b
    below : row b < window.top + window.height
    before : band.left ≤ column b
    after : column b < band.left + band.width

  abbrev unit : ℕ
  unit = column_bytes band.kind

  in_of : (b : ℕ) → in_this_window b ≡ true → IsIn b
  in_of b t =
      let u = some_bytes band.kind in
      let i = inside_of window (row b) (column b / unit) t in
      let low = (le-div_iff_mul-le u).0 i.before in
      let high = (div-lt_iff_lt-mul u).0 i.after in
      let l = w.left in
      let v = w.width in
      record { above = i.above; below = i.below; before = omega arith; after = omega arith }

  place_of : (b : ℕ) → band.left ≤ column b → place (row b) (line b) (column b - band.left) ≡ start + b
  place_of b l =
      let a = row_and_column W b w.wide in
      let e : H * row b + line b ≡ b / W = row_and_column H (b / W) w.high in
      let f : W * (H * row b + line b) ≡ W * (b / W) = ap (λ n. W * n) e in
      omega arith

  -- the cell that a turn changes, its row and its column; it is in the window
  abbrev cell : {first e : ℕ} → Rows first e → ℕ
  cell h = W * (H * h.turn + h.place.turn) + (band.left + h.place.place.turn)

  row_of : {first e : ℕ} (h : Rows first e) → row (cell h) ≡ h.turn
  row_of h = let l = h.place.place.before in let z = w.after in
      ap (λ n. n / H) (over W (H * h.turn + h.place.turn) (band.left + h.place.place.turn) (omega arith)) ∙ over H h.turn h.place.turn h.place.before

  column_of : {first e : ℕ} (h : Rows first e) → column (cell h) ≡ band.left + h.place.place.turn
  column_of h = let l = h.place.place.before in let z = w.after in
      rest W (H * h.turn + h.place.turn) (band.left + h.place.place.turn) (omega arith)

  in_turn : {first e : ℕ} (h : Rows first e) → window.top ≤ first → e ≤ window.top + window.height → in_this_window (cell h) ≡ true
  in_turn h low high =
      let r = row_of h in
      let c = column_of h in
      let u = h.from in
      let v = h.before in
      let i = h.place.place.before in
      let l = w.left in
      let g = w.width in
      let before : window.left * unit ≤ column (cell h) = omega arith in
      let after : column (cell h) < (window.left + window.width) * unit = omega arith in
      inside_test window (row (cell h)) (column (cell h) / unit) (record {
        above = omega arith;
        below = omega arith;
        before = (le-div_iff_mul-le (some_bytes band.kind)).1 before;
        after = (div-lt_iff_lt-mul (some_bytes band.kind)).1 after;
      })

  elsewhere : {first e : ℕ} (h : Rows first e) (o : ℕ) → window.top ≤ first → e ≤ window.top + window.height →
      ((b : ℕ) → start + b ≡ o → in_this_window b ≡ false) → o ≢ at h
  elsewhere h o low high none q = contrary (in_this_window (cell h)) (in_turn h low high) (none (cell h) (sym q))

  -- the turn that changes a cell
  turn_of : (first e b : ℕ) → first ≤ row b → row b < e → IsIn b → Rows first e
  turn_of first e b a k i = let l = i.before in let m = i.after in record {
    turn = row b;
    from = a;
    before = k;
    place = record {
      turn = line b;
      from = omega arith;
      before = mod-lt (b / W) w.high;
      place = record { turn = column b - band.left; from = omega arith; before = omega arith; place = tt };
    };
  }

  shift : (r l i n : ℕ) → place (r + n) l i ≡ place r l i + W * (H * n)
  shift r l i n = omega arith

  -- the number of the cell whose contents a cell gets
  source_of : (direction : Direction) (b n : ℕ) → band.left ≤ column b → has_source_row direction window n (row b) ≡ true →
      place (source_number direction (row b) n) (line b) (column b - band.left) ≡ start + source_number direction b (W * (H * n))
  source_of Up b n l t = let a = place_of b l in let s = shift (row b) (line b) (column b - band.left) n in omega arith
  source_of Down b n l t =
      let low = le_is (window.top + n) (row b) t in
      let from = row b - n in
      let back : from + n ≡ row b = omega arith in
      let a = ap (λ r. place r (line b) (column b - band.left)) back ∙ place_of b l in
      let s = shift from (line b) (column b - band.left) n in
      omega arith

  -- that source cell is on the page
  pub source_within : (direction : Direction) (b n : ℕ) → in_this_window b ≡ true → has_source_row direction window n (b / band.pitch / band.lines) ≡ true →
      source_number direction b (band.pitch * (band.lines * n)) < band.pitch * (band.lines * rows)
  source_within Up b n u t =
      let a = lt_is (row b + n) (window.top + window.height) t in
      let z = w.below in
      moved_within W H rows b n w.wide w.high (omega arith)
  source_within Down b n u t = let i = in_of b u in let a = i.below in let z = w.below in let l = within_rows W H rows b w.wide w.high (omega arith) in
      omega arith

  -- a cell of a new row was filled, depending on its number in its line
  pub record IsFilled (B : ℕ → X → X) (b : ℕ) (x : X) : Type 0 where
    pub under : X
    pub is : x ≡ B (b % band.pitch - band.left) under

  -- the window has moved by n rows
  pub record IsScrolled (direction : Direction) (n : ℕ) (B : ℕ → X → X) (f g : ℕ → X) : Type 0 where
    pub moved : (b : ℕ) → in_this_window b ≡ true → has_source_row direction window n (b / band.pitch / band.lines) ≡ true →
        g (start + b) ≡ f (start + source_number direction b (band.pitch * (band.lines * n)))
    pub filled : (b : ℕ) → in_this_window b ≡ true → has_source_row direction window n (b / band.pitch / band.lines) ≡ false → IsFilled B b (g (start + b))
    pub outside : (o : ℕ) → ((b : ℕ) → start + b ≡ o → in_this_window b ≡ false) → g o ≡ f o

  -- rows that get another row's contents, and new ones
  abbrev pub Taking : Direction → ℕ → Type 0
  Taking direction n = Rows (first_moved direction window n) (first_moved direction window n + (window.height - n))

  abbrev pub New : Direction → ℕ → Type 0
  New direction n = Rows (first_new direction window n) (first_new direction window n + n)

  pub is_scrolled : (direction : Direction) (n : ℕ) → n ≤ window.height → (B : ℕ → X → X) (F : New direction n → X → X) →
      ((h : New direction n) (x : X) → F h x ≡ B h.place.place.turn x) → (f mid g : ℕ → X) →
      Moved X (Taking direction n) (λ h. place (source_number direction h.turn n) h.place.turn h.place.place.turn) (λ h. at h) f mid →
      Edited X (New direction n) (λ h. at h) F mid g → IsScrolled direction n B f g
  unfolding turn_of
  is_scrolled direction n few B F same f mid g moves filling =
      let p = parts direction window n few in
      let first = first_moved direction window n in
      let new = first_new direction window n in
      record {
        moved = λ b u t.
            let i = in_of b u in
            let k = p.is_moved (row b) i.above i.below t in
            let h = turn_of first (first + (window.height - n)) b k.0 k.1 i in
            filling.outside (start + b) (λ j q. let e : b ≡ cell j = omega arith in let v = ap row e ∙ row_of j in let l = j.from in let y = j.before in
            p.apart (row b) k.0 k.1 (omega arith) (omega arith))
            ∙ ap mid (sym (place_of b i.before)) ∙ moves.inside h ∙ ap f (source_of direction b n i.before t);
        filled = λ b u t.
            let i = in_of b u in
            let k = p.is_new (row b) i.above i.below t in
            let h = turn_of new (new + n) b k.0 k.1 i in
            record { under = mid (at h); is = ap g (sym (place_of b i.before)) ∙ filling.inside h ∙ same h (mid (at h)) };
        outside = λ o none. filling.outside o (λ h. elsewhere h o p.new_above p.new_below none)
            ∙ moves.outside o (λ h. elsewhere h o p.moved_above p.moved_below none);
      }

-- a read of a byte answers it and leaves the cells unchanged
pub record IsRead (S : Type 0) (m : BusMeaning S) (R : S → (ℕ → ℕ) → Type 0) (address : ℕ) (s : S) (f : ℕ → ℕ) (v : ℕ) : Type 0 where
  pub still : R (run m (get address) s).0 f
  pub answer : (run m (get address) s).1 ≡ v
  pub small : v < 256

-- if cells are bytes, filling makes new rows, whatever was there
module _ (S : Type 0) (m : BusMeaning S) (base size : ℕ) (band : ColumnBand) (start rows : ℕ) (window : Window) (w : IsWindow base size band start rows window)
    (R : S → (ℕ → ℕ) → Type 0) (read : (i : ℕ) (s : S) (f : ℕ → ℕ) → i < size → R s f → IsRead S m R (base + i) s f (f i))
    (stored : (j v : ℕ) (s : S) (f : ℕ → ℕ) → j < size → v < 256 → R s f → R (run m (put (base + j) v) s).0 (set_cell f j v))
    (filling : AlternatingBytes) (even : filling.even < 256) (odd : filling.odd < 256) where
  moved : (i j : ℕ) (s : S) (f : ℕ → ℕ) → i < size → j < size → R s f → R (run m (move (base + i) (base + j)) s).0 (set_cell f j (f i))
  moved i j s f li lj t =
      let x = read i s f li t in
      subst (λ v. R (run m (put (base + j) v) (run m (get (base + i)) s).0).0 (set_cell f j (f i))) (sym x.answer)
      (stored j (f i) (run m (get (base + i)) s).0 f lj x.small x.still)

  pub filled_once : (direction : Direction) (n : ℕ) (s : S) (f : ℕ → ℕ) → 0 < n → n ≤ window.height → R s f →
      Leaves S ℕ R (run m (move_rows band direction n window.top (window.height - n) >> fill_rows band filling (first_new direction window n) n) s).0
      (IsScrolled ℕ base size band start rows window w direction n (λ i _. filling_byte filling i) f)
  filled_once direction n s f some few t =
      let p = parts direction window n few in
      let moving = move_rows band direction n window.top (window.height - n) in
      let a = bands.rows_moved S ℕ m base size band start rows window w R moved direction n s f some few t in
      let b = bands.rows_filled S ℕ m base size band start rows window w R (λ v _. v) stored filling even odd (first_new direction window n) n
      (run m moving s).0 a.cells p.new_below a.shown in
      subst (λ r. Leaves S ℕ R r.0 (IsScrolled ℕ base size band start rows window w direction n (λ i _. filling_byte filling i) f))
      (sym (run_bind m moving (λ _. fill_rows band filling (first_new direction window n) n) s)) (record {
        cells = b.cells;
        shown = b.shown;
        fact = is_scrolled ℕ base size band start rows window w direction n few (λ i _. filling_byte filling i) (λ h _. filling_byte filling h.place.place.turn)
            (λ h x. refl) f a.cells b.cells a.fact b.fact;
      })
