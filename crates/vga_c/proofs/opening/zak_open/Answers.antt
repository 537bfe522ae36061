use Rattle.std.proofs.Common.{rules}
use Rattle.vga_c.proofs.opening.zak_open.Goals as goal

pub returns-then-is_open-clause-opened : goal.returns-then-is_open-clause-opened
returns-then-is_open-clause-opened c = search rules

pub returns-then-is_open-clause-file : goal.returns-then-is_open-clause-file
returns-then-is_open-clause-file c = search rules

pub returns-then-is_open-clause-open : goal.returns-then-is_open-clause-open
returns-then-is_open-clause-open c = search rules

pub returns-in-Ok-new-clause-opened : goal.returns-in-Ok-new-clause-opened
returns-in-Ok-new-clause-opened c = search rules

pub returns-in-Ok-new-clause-file : goal.returns-in-Ok-new-clause-file
returns-in-Ok-new-clause-file c = search rules

pub returns-in-Ok-new-clause-open : goal.returns-in-Ok-new-clause-open
returns-in-Ok-new-clause-open c = search rules

pub returns-in-Ok-clause-opened : goal.returns-in-Ok-clause-opened
returns-in-Ok-clause-opened c = search rules

pub returns-in-Ok-clause-file : goal.returns-in-Ok-clause-file
returns-in-Ok-clause-file c = search rules

pub returns-in-Ok-clause-open : goal.returns-in-Ok-clause-open
returns-in-Ok-clause-open c = search rules

pub returns : goal.returns
returns c = search rules
