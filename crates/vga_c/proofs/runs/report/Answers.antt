use Rattle.std.proofs.Common.{rules}
use Rattle.vga_c.proofs.runs.report.Goals as goal

pub returns-clause-ok : goal.returns-clause-ok
returns-clause-ok c = search rules
