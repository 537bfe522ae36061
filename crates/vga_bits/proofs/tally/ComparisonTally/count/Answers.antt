use Rattle.std.proofs.Common.{rules}
use Rattle.vga_bits.proofs.tally.ComparisonTally.count.Goals as goal

pub returns-then-has_passed-clause-passed : goal.returns-then-has_passed-clause-passed
returns-then-has_passed-clause-passed c = search rules

pub returns-then-has_passed-clause-failed : goal.returns-then-has_passed-clause-failed
returns-then-has_passed-clause-failed c = search rules

pub returns-else-has_passed-clause-passed : goal.returns-else-has_passed-clause-passed
returns-else-has_passed-clause-passed c = search rules

pub returns-else-has_passed-clause-failed : goal.returns-else-has_passed-clause-failed
returns-else-has_passed-clause-failed c = search rules
