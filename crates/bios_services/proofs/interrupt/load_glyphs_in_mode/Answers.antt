use Rattle.std.proofs.Common.{rules}
use Rattle.bios_services.specs.Service.{load_in_mode_plan, load_unless_refused_plan}
use Rattle.bios_services.proofs.interrupt.load_glyphs_in_mode.Goals as goal

pub returns-then-mode-eq0-clause-answer : goal.returns-then-mode-eq0-clause-answer
unfolding load_in_mode_plan load_unless_refused_plan
returns-then-mode-eq0-clause-answer c = search rules

pub returns-then-mode-eq0-clause-valid : goal.returns-then-mode-eq0-clause-valid
unfolding load_in_mode_plan load_unless_refused_plan
returns-then-mode-eq0-clause-valid c = search rules

pub returns-clause-answer : goal.returns-clause-answer
unfolding load_in_mode_plan load_unless_refused_plan
returns-clause-answer c = search rules

pub returns-clause-valid : goal.returns-clause-valid
unfolding load_in_mode_plan load_unless_refused_plan
returns-clause-valid c = search rules
