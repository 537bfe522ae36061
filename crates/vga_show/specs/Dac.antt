-- An entry of the DAC as text.
use Rattle.std.specs.Prelude.{ℕ, List, ◌∷◌, ◌++◌, map, codes}
use Rattle.vga_dac.specs.Dac.{entry_of}
use Rattle.vga_card.specs.Card.{CardState}
use Rattle.vga_bits.specs.Hex.{two_hex_digits}
use Rattle.vga_show.specs.Lines.{dump_line}

-- the word entry, the index and a colon, and red, green and blue
abbrev pub entry_text : CardState → ℕ → List ℕ
entry_text card index = dump_line (codes "entry") ((two_hex_digits index ++ codes ":")
    ∷ map two_hex_digits (entry_of card.dac index))
