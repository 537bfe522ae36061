use Rattle.std.proofs.Common.{◌≡◌, ◌<◌, length}
use Rattle.vga_c.specs.Checksum.{adler_32, adler_from}
use Rattle.vga_c.proofs.checksum.checksum.Given as goal

-- the sums so far go on over the bytes that are left
abbrev pub invariant-loop-rest : goal.invariant-loop-rest
invariant-loop-rest l = (adler_from l.sums.0 l.sums.1 l.rest ≡ adler_32 l.bytes) × ((l.sums.0 < 65521) × (l.sums.1 < 65521))

-- fewer bytes are left after each run
abbrev pub decreases-loop-rest : goal.decreases-loop-rest
decreases-loop-rest l = length l.rest
