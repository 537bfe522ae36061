use Rattle.std.specs.Prelude.{◌≡◌, ◌+◌, ◌*◌, ◌++◌, length}
use Rattle.vga_planes.specs.Planes.{byte_at}
use Rattle.vga_show.specs.Lines.{two_hex_digits_each, words_after_blanks}
use Rattle.vga_show.proofs.plane.push_plane_bytes.Given as goal

-- the first i bytes stand at the end
abbrev pub invariant-loop-i : goal.invariant-loop-i
invariant-loop-i l =
    (l.text ≡ l.initial.text ++ words_after_blanks (two_hex_digits_each (byte_at l.planes l.plane) l.offset l.i))
    × (length l.text ≡ length l.initial.text + 3 * l.i)
