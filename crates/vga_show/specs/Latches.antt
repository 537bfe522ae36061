-- The latches as text.
use Rattle.std.specs.Prelude.{ℕ, List, [], ◌∷◌, codes}
use Rattle.vga_card.specs.Card.{CardState}
use Rattle.vga_bits.specs.Hex.{two_hex_digits}
use Rattle.vga_show.specs.Lines.{dump_line}

-- the word latches, and the latch of each plane
abbrev pub latches_text : CardState → List ℕ
latches_text card =
    let latches = card.host.latches in
    dump_line (codes "latches") (two_hex_digits latches.plane0 ∷ two_hex_digits latches.plane1
    ∷ two_hex_digits latches.plane2 ∷ two_hex_digits latches.plane3 ∷ [])
