use Rattle.std.proofs.Common.{rules}
use Rattle.vga_c.proofs.outcome.write_place.Goals as goal

pub returns-in_default : goal.returns-in_default
returns-in_default c = search rules

pub returns-in-BadStep : goal.returns-in-BadStep
returns-in-BadStep c = search rules

pub returns-in-BadStep-2 : goal.returns-in-BadStep-2
returns-in-BadStep-2 c = search rules

pub returns-in-BadStep-3 : goal.returns-in-BadStep-3
returns-in-BadStep-3 c = search rules
