use Rattle.std.proofs.Common.{◌≡◌, ◌+◌, ◌*◌, ◌%◌, ◌++◌, ℕ, List, drop}
use Rattle.vga_c.specs.Checksum.{adler_from}
use Rattle.vga_c.specs.LaneSums.{AreLanesOfBytes, sum_of_lanes, sum_of_sums_of_lanes}
use Rattle.vga_c.proofs.lane_sums.LaneSums.of_block.Given as goal

-- the sums are those of the words so far
abbrev pub invariant-loop-n : goal.invariant-loop-n
invariant-loop-n l = AreLanesOfBytes l.n l.sums
    × ((sum sums : ℕ) (rest : List ℕ) → adler_from (sum % 65521) (sums % 65521) (l.block ++ rest)
    ≡ adler_from ((sum + sum_of_lanes l.sums) % 65521) ((sums + 8 * l.n * sum + sum_of_sums_of_lanes l.sums) % 65521) (drop (8 * l.n) l.block ++ rest))
