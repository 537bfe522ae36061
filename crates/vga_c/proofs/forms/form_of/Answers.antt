use Rattle.std.proofs.Common.{rules}
use Rattle.vga_c.proofs.forms.form_of.Goals as goal

pub returns-then-flags-eq1-clause-value : goal.returns-then-flags-eq1-clause-value
returns-then-flags-eq1-clause-value c = search rules

pub returns-else-flags-eq1-clause-value : goal.returns-else-flags-eq1-clause-value
returns-else-flags-eq1-clause-value c = search rules
