use Rattle.std.proofs.Common.{rules}
use Rattle.vga_bits.proofs.tally.ComparisonTally.status.Goals as goal

pub returns-then-self-eq0 : goal.returns-then-self-eq0
returns-then-self-eq0 c = search rules

pub returns-else-self-eq0 : goal.returns-else-self-eq0
returns-else-self-eq0 c = search rules
