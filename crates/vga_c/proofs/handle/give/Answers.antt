use Rattle.std.proofs.Common.{◌∙◌}
use Rattle.vga_c.proofs.HandleLemmas.{none_owed}
use Rattle.vga_c.proofs.handle.give.Goals as goal

pub returns-clause-machine : goal.returns-clause-machine
returns-clause-machine c = c.give_owing.ensures.machine ∙ none_owed c.dots_split.ensures.none c.args.machine.value
