use Rattle.std.specs.Prelude.{◌≡◌, ◌+◌, ◌*◌, ◌++◌, length, slice_index}
use Rattle.vga_show.specs.Lines.{four_hex_digits_each, words_after_blanks}
use Rattle.vga_show.proofs.bda.push_cursor_positions.Given as goal

-- the first i places stand at the end
abbrev pub invariant-loop-i : goal.invariant-loop-i
invariant-loop-i l =
    (l.text ≡ l.initial.text ++ words_after_blanks (four_hex_digits_each (slice_index l.bda.cursor_places) 0 l.i)) × (length l.text ≡ length l.initial.text + 5 * l.i)
