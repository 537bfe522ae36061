-- Where more dots are owed than one advance takes, they are drawn first.
use Rattle.std.proofs.Common.{◌∙◌}
use Rattle.vga_c.proofs.HandleLemmas.{none_owed}
use Rattle.vga_c.proofs.handle.take_owing.Goals as goal

pub returns-then-card-gt-MOST_DOTS-clause-machine : goal.returns-then-card-gt-MOST_DOTS-clause-machine
returns-then-card-gt-MOST_DOTS-clause-machine c = none_owed c.dots_split.ensures.none c.take.result.value ∙ c.take.ensures.machine
