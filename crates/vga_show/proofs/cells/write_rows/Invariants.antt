use Rattle.std.proofs.Common.{◌+◌, ◌-◌}
use Rattle.vga_bits.specs.Tracked.{inner_of, has_failed}
use Rattle.vga_bits.proofs.WritingLemmas.{Written}
use Rattle.vga_show.specs.Cells.{rows_text}
use Rattle.vga_show.proofs.cells.write_rows.Given as goal

-- of all rows those from this one on are still to be written
abbrev pub invariant-loop-row : goal.invariant-loop-row
invariant-loop-row g l =
    Written (g.W.Write.contents (inner_of l.initial.out)) (g.W.Write.contents (inner_of l.out)) (has_failed l.out)
    (rows_text l.card l.bda (l.bda.last_row + 1) 0) (rows_text l.card l.bda (l.bda.last_row + 1 - l.row) l.row)
