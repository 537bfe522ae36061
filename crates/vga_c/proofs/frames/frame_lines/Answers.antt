use Rattle.std.proofs.Common.{rules}
use Rattle.vga_run.specs.Step.{after_step}
use Rattle.vga_c.proofs.frames.frame_lines.Goals as goal

pub returns-clause-after : goal.returns-clause-after
unfolding after_step
returns-clause-after c = search rules

pub returns-clause-widths : goal.returns-clause-widths
unfolding after_step
returns-clause-widths c = search rules

pub returns-clause-dots : goal.returns-clause-dots
unfolding after_step
returns-clause-dots c = search rules
