use Rattle.std.proofs.Common.{rules}
use Rattle.bios_screen.proofs.screen.Screen.read.Goals as goal

pub returns-in_default-clause-ok : goal.returns-in_default-clause-ok
returns-in_default-clause-ok c = search rules

pub returns-then-not-is_shown-clause-ok : goal.returns-then-not-is_shown-clause-ok
returns-then-not-is_shown-clause-ok c = search rules

pub returns-in_ok-of_text-clause-ok : goal.returns-in_ok-of_text-clause-ok
returns-in_ok-of_text-clause-ok c = search rules

pub returns-in_ok-of_pixels-clause-ok : goal.returns-in_ok-of_pixels-clause-ok
returns-in_ok-of_pixels-clause-ok c = search rules
