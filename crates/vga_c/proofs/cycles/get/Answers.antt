use Rattle.std.proofs.Common.{rules}
use Rattle.vga_run.specs.Step.{after_step, answer_to}
use Rattle.vga_c.proofs.cycles.get.Goals as goal

pub returns-clause-after : goal.returns-clause-after
unfolding after_step answer_to
returns-clause-after c = search rules

pub returns-clause-status : goal.returns-clause-status
unfolding after_step answer_to
returns-clause-status c = search rules

pub returns-clause-value : goal.returns-clause-value
unfolding after_step answer_to
returns-clause-value c = search rules
