use Rattle.std.proofs.Common.{rules}
use Rattle.vga_c.proofs.opening.zak_close.Goals as goal

pub returns-then-not-is_open-clause-open : goal.returns-then-not-is_open-clause-open
returns-then-not-is_open-clause-open c = search rules

pub returns-then-not-is_open-clause-closed : goal.returns-then-not-is_open-clause-closed
returns-then-not-is_open-clause-closed c = search rules

pub returns-clause-open : goal.returns-clause-open
returns-clause-open c = search rules

pub returns-clause-closed : goal.returns-clause-closed
returns-clause-closed c = search rules
