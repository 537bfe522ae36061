-- The dots of a frame line by line, where lines may differ in width.
use Rattle.std.specs.Prelude.{ℕ, zero, suc, ◌≡◌, ◌+◌, ◌==◌, List, [], ◌∷◌}
use Rattle.std.specs.List.{count_by}
use Rattle.vga_card.specs.declared.lines.DrawnLines.{DrawnLines}
use Rattle.vga_card.specs.Picture.{Dot, lines_of_dots, bytes_of_dots}

-- how many numbers of a list are v
abbrev pub dot_count_of_line : List ℕ → ℕ → ℕ
dot_count_of_line lines v = count_by (λ x. x == v) lines

-- for each of the n numbers from v on, how many numbers of a list equal it
unfoldable pub dot_counts_of_lines : List ℕ → ℕ → ℕ → List ℕ
dot_counts_of_lines lines v zero = []
dot_counts_of_lines lines v (suc n) =
    dot_count_of_line lines v ∷ dot_counts_of_lines lines (v + 1) n

-- how many dots each of 1,024 lines has
unfoldable pub line_widths : List Dot → List ℕ
line_widths dots = dot_counts_of_lines (lines_of_dots dots) 0 1024

-- what was drawn of these dots: how many each line has, and the colour of each in turn
abbrev pub IsLinesOf : List Dot → DrawnLines → Type 0
IsLinesOf dots lines =
    (lines.widths.now ≡ line_widths dots) × (lines.bytes.now ≡ bytes_of_dots dots)
