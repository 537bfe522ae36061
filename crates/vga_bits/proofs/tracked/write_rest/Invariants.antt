use Rattle.std.proofs.Common.{length}
use Rattle.vga_bits.specs.Tracked.{inner_of, has_failed}
use Rattle.vga_bits.proofs.WritingLemmas.{Written}
use Rattle.vga_bits.proofs.tracked.write_rest.Given as goal

-- a prefix of the bytes is written
abbrev pub invariant-loop-rest : goal.invariant-loop-rest
invariant-loop-rest g l = Written (g.W.Write.contents (inner_of l.initial.out)) (g.W.Write.contents (inner_of l.out)) (has_failed l.out) l.bytes l.rest

abbrev pub decreases-loop-rest : goal.decreases-loop-rest
decreases-loop-rest g l = length l.rest
