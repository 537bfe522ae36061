use Rattle.std.proofs.Common.{rules}
use Rattle.vga_bits.proofs.tally.ComparisonTally.new.Goals as goal

pub returns-clause-passed : goal.returns-clause-passed
returns-clause-passed c = search rules

pub returns-clause-failed : goal.returns-clause-failed
returns-clause-failed c = search rules
