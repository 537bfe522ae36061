-- Typing from a position of a page leads to a position of that page.
use Rattle.std.proofs.Common.{◌≡◌, ℕ, ◌+◌, ◌-◌, ◌<◌, ◌≤◌, refl, sym, ap, subst, arith, Bool, true, false}
use Rattle.std.specs.Prelude.{◌==◌, nat_lt, if◌then◌else◌}
use Rattle.std.proofs.lemmas.Bool.Decides.{nat_tests}
use Rattle.bios_screen.proofs.Prelude.{FontSet, Colouring, Screen}
use Rattle.bios_services.specs.Cursor.{row_of_position, column_of_position}
use Rattle.bios_services.specs.Teletype.{position_at_start_of_row}
use Rattle.bios_screen.specs.Step.{last_row_attribute, page_up, after_line_feed, screen_and_next_position, put_character, type_character}
use Rattle.bios_screen.proofs.Base.Tests.{lt_is}

-- a position lies on a page with these numbers of rows and columns
pub record Inside (rows columns place : ℕ) : Type 0 where
  pub row : row_of_position place < rows
  pub column : column_of_position place < columns

-- the screen after a line feed on the last row: the page has gone up by a row
abbrev pub risen : Screen → ℕ → ℕ → Screen
risen s p place = page_up s p (last_row_attribute s p place)

module _ (rows columns : ℕ) (narrow : columns ≤ 80) where
  below_inside : (place : ℕ) → row_of_position place < rows - 1 → Inside rows columns place → Inside rows columns (place + 256)
  below_inside place l i = let c = i.column in record { row = omega arith; column = omega arith }

  next_inside : (place : ℕ) → column_of_position place + 1 < columns → Inside rows columns place → Inside rows columns (place + 1)
  next_inside place l i = let r = i.row in record { row = omega arith; column = omega arith }

  start_inside : (place : ℕ) → Inside rows columns place → Inside rows columns (position_at_start_of_row place)
  start_inside place i = let r = i.row in let c = i.column in record { row = omega arith; column = omega arith }

  back_inside : (place : ℕ) → Inside rows columns place → Inside rows columns (if column_of_position place == 0 then place else place - 1)
  back_inside place i = by_test (column_of_position place == 0) refl
    where
      by_test : (b : Bool) → (column_of_position place == 0) ≡ b → Inside rows columns (if column_of_position place == 0 then place else place - 1)
      by_test true e = subst (λ b. Inside rows columns (if b then place else place - 1)) (sym e) i
      by_test false e =
          let some : 0 < column_of_position place = grind (arith, nat_tests) in
          let r = i.row in
          let c = i.column in
          subst (λ b. Inside rows columns (if b then place else place - 1)) (sym e) (record { row = omega arith; column = omega arith })

  fed_inside : (s : Screen) (p place : ℕ) → s.layout.rows ≡ rows → Inside rows columns place → Inside rows columns (after_line_feed s p place).1
  fed_inside s p place e i = by_test (nat_lt (row_of_position place) (s.layout.rows - 1)) refl
    where
      either : Bool → ℕ
      either b = let x : Screen × ℕ = (if b then (s, place + 256) else (risen s p place, place)) in x.1

      by_test : (b : Bool) → nat_lt (row_of_position place) (s.layout.rows - 1) ≡ b → Inside rows columns (after_line_feed s p place).1
      by_test true t = let a = lt_is (row_of_position place) (s.layout.rows - 1) t in subst (Inside rows columns) (sym (ap either t))
          (below_inside place (omega arith) i)
      by_test false t = subst (Inside rows columns) (sym (ap either t)) i

  advanced_inside : (s : Screen) (p place : ℕ) → s.layout.rows ≡ rows → s.layout.columns ≡ columns → Inside rows columns place →
      Inside rows columns (screen_and_next_position s p place).1
  advanced_inside s p place e w i = by_test (nat_lt (column_of_position place + 1) s.layout.columns) refl
    where
      either : Bool → ℕ
      either b = let x : Screen × ℕ = (if b then (s, place + 1) else ((after_line_feed s p place).0, position_at_start_of_row (after_line_feed s p place).1)) in x.1

      by_test : (b : Bool) → nat_lt (column_of_position place + 1) s.layout.columns ≡ b → Inside rows columns (screen_and_next_position s p place).1
      by_test true t = let a = lt_is (column_of_position place + 1) s.layout.columns t in subst (Inside rows columns) (sym (ap either t))
          (next_inside place (omega arith) i)
      by_test false t = subst (Inside rows columns) (sym (ap either t)) (start_inside (after_line_feed s p place).1 (fed_inside s p place e i))

  pub typed_inside : (fonts : FontSet) (s : Screen) (p place v : ℕ) (colouring : Colouring) → s.layout.rows ≡ rows → s.layout.columns ≡ columns →
      Inside rows columns place → Inside rows columns (type_character fonts s p place v colouring).1
  unfolding type_character
  typed_inside fonts s p place v colouring e w i = by_tests (v == 0x07) (v == 0x08) (v == 0x0A) (v == 0x0D)
    where
      back : ℕ
      back = if column_of_position place == 0 then place else place - 1

      on : Screen × ℕ
      on = screen_and_next_position (put_character fonts s p place v colouring) p place

      by_tests : (a b g f : Bool) → Inside rows columns (let x : Screen × ℕ = (if a then (s, place) else if b then (s, back) else if g then after_line_feed s p place
          else if f then (s, position_at_start_of_row place) else on) in x.1)
      by_tests true b g f = i
      by_tests false true g f = back_inside place i
      by_tests false false true f = fed_inside s p place e i
      by_tests false false false true = start_inside place i
      by_tests false false false false = advanced_inside (put_character fonts s p place v colouring) p place e w i

  pub inside_word : (place : ℕ) → rows ≤ 255 → Inside rows columns place → place < 65536
  inside_word place l i = let r = i.row in omega arith
