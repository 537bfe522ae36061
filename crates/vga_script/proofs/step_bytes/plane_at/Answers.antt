use Rattle.std.proofs.Common.{rules}
use Rattle.vga_script.proofs.step_bytes.plane_at.Goals as goal

pub returns-then-not-is_in_range-clause-found : goal.returns-then-not-is_in_range-clause-found
returns-then-not-is_in_range-clause-found c = search rules

pub returns-then-not-is_in_range-clause-bad : goal.returns-then-not-is_in_range-clause-bad
returns-then-not-is_in_range-clause-bad c = search rules

pub returns-then-not-is_in_range-clause-cut : goal.returns-then-not-is_in_range-clause-cut
returns-then-not-is_in_range-clause-cut c = search rules

pub returns-clause-found : goal.returns-clause-found
returns-clause-found c = search rules

pub returns-clause-bad : goal.returns-clause-bad
returns-clause-bad c = search rules

pub returns-clause-cut : goal.returns-clause-cut
returns-clause-cut c = search rules
