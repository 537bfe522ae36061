use Rattle.std.specs.Prelude.{◌≡◌, ◌+◌, ◌*◌, ◌++◌, length}
use Rattle.vga_show.specs.Lines.{four_hex_digits_each, words_after_blanks}
use Rattle.vga_show.specs.Cells.{cell_of_active_page}
use Rattle.vga_show.proofs.cells.push_cells.Given as goal

-- the first cells of the row stand at the end
abbrev pub invariant-loop-column : goal.invariant-loop-column
invariant-loop-column l =
    (l.text ≡ l.initial.text ++ words_after_blanks (four_hex_digits_each (cell_of_active_page l.card l.bda) (l.bda.columns * l.row) l.column))
    × (length l.text ≡ length l.initial.text + 5 * l.column)
