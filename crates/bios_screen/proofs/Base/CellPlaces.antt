-- Where character cells lie on a page of pixels: rows and columns by division, for any sizes.
use Rattle.std.proofs.Common.{◌≡◌, ℕ, ◌+◌, ◌*◌, ◌/◌, ◌%◌, ◌<◌, ◌≤◌, ⊎_elim, sym, ap, ◌∙◌, arith}
use Rattle.std.proofs.Math.Nat.{mod-lt}
use Rattle.std.proofs.lemmas.Bool.{cases_lt}
use Rattle.std.proofs.lemmas.Nat.{div-mul-add, mod-mul-add, mul-add-lt, mul-le}
use Rattle.bios_screen.proofs.Base.Places.{rows_further, row_and_column}

-- the cell of strip b, and the line in it; w strips make a line, and h lines a character
abbrev pub cell_of : ℕ → ℕ → ℕ → ℕ
cell_of w h b = w * (b / w / h) + b % w

abbrev pub line_of : ℕ → ℕ → ℕ → ℕ
line_of w h b = b / w % h

-- the strip of line r of cell q
abbrev pub strip_at : ℕ → ℕ → ℕ → ℕ → ℕ
strip_at w h q r = w * (h * (q / w) + r) + q % w

pub over : (w a b : ℕ) → b < w → (w * a + b) / w ≡ a
over w a b l = let e : w * a + b ≡ a * w + b = omega arith in ap (λ n. n / w) e ∙ div-mul-add a w b l

pub rest : (w a b : ℕ) → b < w → (w * a + b) % w ≡ b
rest w a b l = let e : w * a + b ≡ a * w + b = omega arith in ap (λ n. n % w) e ∙ mod-mul-add a w b l

pub strip_of_cell : (w h b : ℕ) → 0 < w → 0 < h → strip_at w h (cell_of w h b) (line_of w h b) ≡ b
strip_of_cell w h b lw lh =
    let y = b / w in
    let lx = mod-lt b lw in
    ap (λ n. w * (h * n + y % h) + cell_of w h b % w) (over w (y / h) (b % w) lx)
    ∙ ap (λ n. w * (h * (y / h) + y % h) + n) (rest w (y / h) (b % w) lx)
    ∙ ap (λ n. w * n + b % w) (row_and_column h y lh)
    ∙ row_and_column w b lw

pub line_over : (w h q r : ℕ) → 0 < w → strip_at w h q r / w ≡ h * (q / w) + r
line_over w h q r lw = over w (h * (q / w) + r) (q % w) (mod-lt q lw)

pub cell_of_strip : (w h q r : ℕ) → 0 < w → r < h → cell_of w h (strip_at w h q r) ≡ q
cell_of_strip w h q r lw lr =
    ap (λ n. w * (n / h) + strip_at w h q r % w) (line_over w h q r lw)
    ∙ ap (λ n. w * n + strip_at w h q r % w) (over h (q / w) r lr)
    ∙ ap (λ n. w * (q / w) + n) (rest w (h * (q / w) + r) (q % w) (mod-lt q lw))
    ∙ row_and_column w q lw

pub line_of_strip : (w h q r : ℕ) → 0 < w → r < h → line_of w h (strip_at w h q r) ≡ r
line_of_strip w h q r lw lr = ap (λ n. n % h) (line_over w h q r lw) ∙ rest h (q / w) r lr

-- different lines of a cell have different strips
pub same_line : (w h q r v : ℕ) → 0 < w → r < h → v < h → strip_at w h q r ≡ strip_at w h q v → r ≡ v
same_line w h q r v lw lr lv e = sym (line_of_strip w h q r lw lr) ∙ ap (line_of w h) e ∙ line_of_strip w h q v lw lv

-- the strips of a page's cell lie on that page
pub strip_within : (w h rows q r : ℕ) → 0 < w → r < h → q < w * rows → strip_at w h q r < w * (h * rows)
strip_within w h rows q r lw lr lq =
    let row : q / w < rows = ⊎_elim (λ (a : q / w < rows). a) (λ (a : rows ≤ q / w). let e = row_and_column w q lw in let g =
    mul-le w rows w (q / w) (omega arith) a in absurd (omega arith)) (cases_lt (q / w) rows) in
    let y : h * (q / w) + r < h * rows = let a = mul-add-lt (q / w) h r rows row lr in omega arith in
    let a = mul-add-lt (h * (q / w) + r) w (q % w) (h * rows) y (mod-lt q lw) in
    omega arith

-- a pixel's number by line, strip and position in the strip; eight pixels make a strip
split : (w k : ℕ) → 0 < w → k ≡ 8 * w * (k / 8 / w) + (8 * (k / 8 % w) + k % 8)
split w k lw =
    let e = row_and_column w (k / 8) lw in
    let g : 8 * w * (k / 8 / w) ≡ 8 * (w * (k / 8 / w)) = omega arith in
    omega arith

fits : (w k : ℕ) → 0 < w → 8 * (k / 8 % w) + k % 8 < 8 * w
fits w k lw = let l = mod-lt (k / 8) lw in omega arith

pub line_by_8 : (w k : ℕ) → 0 < w → k / (8 * w) ≡ k / 8 / w
line_by_8 w k lw = ap (λ n. n / (8 * w)) (split w k lw) ∙ over (8 * w) (k / 8 / w) (8 * (k / 8 % w) + k % 8) (fits w k lw)

pub column_by_8 : (w k : ℕ) → 0 < w → k % (8 * w) / 8 ≡ k / 8 % w
column_by_8 w k lw =
    let e : (8 * (k / 8 % w) + k % 8) / 8 ≡ k / 8 % w = eighth (k / 8 % w) (k % 8) (omega arith) in
    ap (λ n. n % (8 * w) / 8) (split w k lw) ∙ ap (λ n. n / 8) (rest (8 * w) (k / 8 / w) (8 * (k / 8 % w) + k % 8) (fits w k lw)) ∙ e
  where
    eighth : (x j : ℕ) → j < 8 → (8 * x + j) / 8 ≡ x
    eighth x j l = omega arith

-- the cell and the line of a pixel are those of its strip
pub pixel_cell_is : (w h k : ℕ) → 0 < w → w * (k / (8 * w) / h) + k % (8 * w) / 8 ≡ cell_of w h (k / 8)
pixel_cell_is w h k lw = ap (λ n. w * (n / h) + k % (8 * w) / 8) (line_by_8 w k lw) ∙ ap (λ n. w * (k / 8 / w / h) + n) (column_by_8 w k lw)

pub pixel_line_is : (w h k : ℕ) → 0 < w → k / (8 * w) % h ≡ line_of w h (k / 8)
pixel_line_is w h k lw = ap (λ n. n % h) (line_by_8 w k lw)

-- a strip in one of the first rows of characters, and the one some rows below it
pub within_rows : (w h rows b : ℕ) → 0 < w → 0 < h → b / w / h < rows → b < w * (h * rows)
within_rows w h rows b lw lh l =
    let y = row_and_column h (b / w) lh in
    let x = row_and_column w b lw in
    let g = mul-add-lt (b / w / h) h (b / w % h) rows l (mod-lt (b / w) lh) in
    let a = mul-add-lt (b / w) w (b % w) (h * rows) (omega arith) (mod-lt b lw) in
    omega arith

pub moved_within : (w h rows b n : ℕ) → 0 < w → 0 < h → b / w / h + n < rows → b + w * (h * n) < w * (h * rows)
moved_within w h rows b n lw lh l =
    let first = b / w / h + 1 in
    let a = within_rows w h first b lw lh (omega arith) in
    let g = rows_further h first n in
    let f : w * (h * (first + n)) ≡ w * (h * first) + w * (h * n) = ap (λ v. w * v) g ∙ rows_further w (h * first) (h * n) in
    let e = mul-le w (h * (first + n)) w (h * rows) (omega arith) (mul-le h (first + n) h rows (omega arith) (omega arith)) in
    omega arith

-- if n rows of characters lie above strip b, then b is at least their number of strips
pub rows_above : (w h b n : ℕ) → 0 < w → 0 < h → n ≤ b / w / h → w * (h * n) ≤ b
rows_above w h b n lw lh l =
    let y = row_and_column h (b / w) lh in
    let x = row_and_column w b lw in
    let e = mul-le w (h * n) w (b / w) (omega arith) (let g = mul-le h n h (b / w / h) (omega arith) l in omega arith) in
    omega arith
