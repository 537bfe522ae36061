use Rattle.std.proofs.Common.{◌≡◌, ◌≤◌, ◌+◌, ◌*◌, ◌%◌, ◌++◌, List, ℕ, drop}
use Rattle.vga_c.specs.Checksum.{adler_from}
use Rattle.vga_c.proofs.checksum.add_bytes_to_sums.Given as goal

-- the sums so far, reduced, go on over the bytes that are left, and they are small
abbrev pub invariant-loop-i : goal.invariant-loop-i
invariant-loop-i l = ((rest : List ℕ) → adler_from l.initial.sum l.initial.sums (l.bytes ++ rest)
    ≡ adler_from (l.sum % 65521) (l.sums % 65521) (drop l.i l.bytes ++ rest))
    × ((l.sum ≤ 65520 + 255 * l.i) × (l.sums ≤ 65520 + 587760 * l.i))
