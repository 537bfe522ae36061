use Rattle.std.proofs.Common.{rules}
use Rattle.vga_c.proofs.saved.zak_save_size.Goals as goal

pub returns-then-not-is_open-clause-card : goal.returns-then-not-is_open-clause-card
returns-then-not-is_open-clause-card c = search rules

pub returns-then-not-is_open-clause-len : goal.returns-then-not-is_open-clause-len
returns-then-not-is_open-clause-len c = search rules

pub returns-then-not-is_open-clause-closed : goal.returns-then-not-is_open-clause-closed
returns-then-not-is_open-clause-closed c = search rules

pub returns-then-not-is_open-clause-spared : goal.returns-then-not-is_open-clause-spared
returns-then-not-is_open-clause-spared c = search rules

pub returns-clause-card : goal.returns-clause-card
returns-clause-card c = search rules

pub returns-clause-len : goal.returns-clause-len
returns-clause-len c = search rules

pub returns-clause-closed : goal.returns-clause-closed
returns-clause-closed c = search rules

pub returns-clause-spared : goal.returns-clause-spared
returns-clause-spared c = search rules
