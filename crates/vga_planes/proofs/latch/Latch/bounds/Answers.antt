-- The bytes are those of a word, and each of a word's bytes is below 256.
use Rattle.std.proofs.Common.{ℕ, ◌<◌, subst}
use Rattle.vga_bits.specs.Four.{of_plane}
use Rattle.vga_bits.proofs.WordLemmas.{bytes_below}
use Rattle.vga_planes.proofs.latch.Latch.bounds.Goals as goal

pub returns : goal.returns
returns c = subst (λ bytes. (p : ℕ) → p < 4 → of_plane bytes p < 256) c.word.ensures.bytes (bytes_below c.word.result)
