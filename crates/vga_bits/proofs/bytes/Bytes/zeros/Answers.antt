use Rattle.std.proofs.Common.{rules}
use Rattle.vga_bits.specs.Bytes.{zeros}
use Rattle.vga_bits.proofs.bytes.Bytes.zeros.Goals as goal

pub returns-then-len-eq0-clause-zeros : goal.returns-then-len-eq0-clause-zeros
unfolding zeros
returns-then-len-eq0-clause-zeros c = search rules

pub returns-then-len-eq0-clause-some : goal.returns-then-len-eq0-clause-some
unfolding zeros
returns-then-len-eq0-clause-some c = search rules

pub returns-in-Ok-clause-zeros : goal.returns-in-Ok-clause-zeros
unfolding zeros
returns-in-Ok-clause-zeros c = search rules

pub returns-in-Ok-clause-some : goal.returns-in-Ok-clause-some
unfolding zeros
returns-in-Ok-clause-some c = search rules
