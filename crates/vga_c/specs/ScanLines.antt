-- A scan line of the frame under way, as the caller gets it at the line's end.
use Rattle.std.specs.Prelude.{◌≡◌, ◌+◌, ◌-◌, ◌<◌, ◌≤◌, ℕ, true, List, length, slice_index, bit_or}
use Rattle.std.specs.Prelude.{if◌then◌else◌}
use Rattle.vga_card.specs.Card.{CardState}
use Rattle.vga_card.specs.Frames.{is_at_frame_start, line}
use Rattle.vga_card.specs.Lines.{line_widths}
use Rattle.vga_card.specs.Picture.{bytes_of_dots}
use Rattle.vga_run.specs.declared.machine.Machine.{Machine}
use Rattle.vga_c.specs.declared.scan_lines.ScanLine.{ScanLine}
use Rattle.vga_c.specs.Forms.{AreRowsInBuffer, rgb_word_of_dot, wants_opaque_words}
use Rattle.vga_c.specs.Handle.{HandleState, machine_after_owed_dots}
use Rattle.vga_c.specs.Status.{bad_argument_status}

-- how many dots the line under way has when it ends
abbrev pub width_of_line_under_way : CardState → ℕ
width_of_line_under_way c = slice_index (line_widths (line c).drawn) c.crtc.beam.line

-- the line's number, how many dots it has, and whether the frame ends with it
abbrev pub scan_line_of : CardState → ScanLine
scan_line_of c = record {
  number = c.crtc.beam.line;
  width = width_of_line_under_way c;
  ends_frame = is_at_frame_start (line c);
}

-- the word of dot x of a line, whose dots are the last ones drawn at its end
abbrev pub line_word : ℕ → CardState → ℕ → ℕ → ℕ
line_word flags c x y = bit_or (if wants_opaque_words flags then 0xFF00_0000 else 0)
    (rgb_word_of_dot (bytes_of_dots (line c).drawn) (length (line c).drawn - width_of_line_under_way c + x))

-- Known flags: a machine comes to the end of the line under way, the output describes that line,
-- and has its words if there is room. With other flags nothing changes.
abbrev pub DrawsLine : ℕ → Machine → Machine → ScanLine → ScanLine → List ℕ → List ℕ → ℕ → Type 0
DrawsLine flags old_machine new_machine told_old told old new status =
    (flags < 2 → (new_machine ≡ record old_machine { card = line old_machine.card })
    × ((told ≡ scan_line_of old_machine.card)
    × AreRowsInBuffer told.width 1 told.width (line_word flags old_machine.card) old new status))
    × (2 ≤ flags → (new_machine ≡ old_machine) × ((told ≡ told_old) × ((new ≡ old)
    × (status ≡ bad_argument_status))))

-- an open card comes to the end of the line under way, and the output describes that line; with
-- unknown flags nothing changes
abbrev pub DrawsLineOfOpenCard : ℕ → HandleState → HandleState → ScanLine → ScanLine → List ℕ → List ℕ →
    ℕ → Type 0
DrawsLineOfOpenCard flags card_old card told_old told old new status = card_old.is_open ≡ true →
    (card.is_open ≡ true) × DrawsLine flags (machine_after_owed_dots card_old) (machine_after_owed_dots card) told_old told
    old new status
