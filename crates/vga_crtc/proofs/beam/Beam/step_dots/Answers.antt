use Rattle.std.proofs.Common.{rules}
use Rattle.vga_crtc.proofs.beam.Beam.step_dots.Goals as goal

pub returns-then-at-characters-clause-value : goal.returns-then-at-characters-clause-value
returns-then-at-characters-clause-value c = search rules

pub returns-then-at-characters-clause-place : goal.returns-then-at-characters-clause-place
returns-then-at-characters-clause-place c = search rules

pub returns-else-at-characters-clause-value : goal.returns-else-at-characters-clause-value
returns-else-at-characters-clause-value c = search rules

pub returns-else-at-characters-clause-place : goal.returns-else-at-characters-clause-place
returns-else-at-characters-clause-place c = search rules
