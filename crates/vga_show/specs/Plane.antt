-- Bytes of a plane as text.
use Rattle.std.specs.Prelude.{ℕ, List, [], ◌∷◌, ◌++◌, codes}
use Rattle.vga_planes.specs.Planes.{byte_at}
use Rattle.vga_card.specs.Card.{CardState}
use Rattle.vga_bits.specs.Hex.{hex_digit, four_hex_digits}
use Rattle.vga_show.specs.Lines.{dump_line, two_hex_digits_each}

-- the word plane, its number, the offset and a colon, and the bytes of the plane from the offset on
abbrev pub plane_text : CardState → ℕ → ℕ → ℕ → List ℕ
plane_text card plane offset count =
    dump_line (codes "plane") ((hex_digit plane ∷ []) ∷ (four_hex_digits offset ++ codes ":")
    ∷ two_hex_digits_each (byte_at card.host.memory plane) offset count)
