-- The beam as text.
use Rattle.std.specs.Prelude.{ℕ, Bool, if◌then◌else◌, List, [], ◌∷◌, ◌++◌, codes, decimal}
use Rattle.vga_crtc.specs.declared.beam.Beam.{Beam}
use Rattle.vga_card.specs.Card.{CardState}
use Rattle.vga_card.specs.Picture.{row_count}
use Rattle.vga_card.specs.Dots.{dots_of_frame_so_far}
use Rattle.vga_bits.specs.Hex.{four_hex_digits}
use Rattle.vga_show.specs.Lines.{dump_line}

-- a flag as a number: 1 if it is set, otherwise 0
abbrev pub flag_number : Bool → ℕ
flag_number is_set = if is_set then 1 else 0

-- the position of the beam: frame, line, character and dot, in decimal
unfoldable pub beam_position_words : Beam → List (List ℕ)
beam_position_words beam =
    codes "frame" ∷ decimal beam.frame ∷ codes "line" ∷ decimal beam.line ∷ codes "char"
    ∷ decimal beam.character
    ∷ codes "dot" ∷ decimal beam.dot ∷ []

-- the counters of the beam: the base in hexadecimal, the scan line, and the two flags
unfoldable pub beam_counter_words : Beam → List (List ℕ)
beam_counter_words beam =
    codes "base" ∷ four_hex_digits beam.base ∷ codes "scan" ∷ decimal beam.scan
    ∷ codes "half" ∷ decimal (flag_number beam.half) ∷ codes "split" ∷ decimal
    (flag_number beam.split) ∷ []

-- the word beam, its position, its counters, and a number of rows
abbrev pub beam_text_with_row_count : Beam → ℕ → List ℕ
beam_text_with_row_count beam count = dump_line (codes "beam") (beam_position_words beam
    ++ (beam_counter_words beam ++ codes "rows" ∷ decimal count ∷ []))

-- the beam, and how many rows are drawn of the frame under way
abbrev pub beam_text : CardState → List ℕ
beam_text card = beam_text_with_row_count card.crtc.beam (row_count (dots_of_frame_so_far card))
