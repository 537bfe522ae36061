use Rattle.std.proofs.Common.{rules}
use Rattle.vga_c.proofs.services.write_answer.Goals as goal

pub returns-in-Ok : goal.returns-in-Ok
returns-in-Ok c = search rules
