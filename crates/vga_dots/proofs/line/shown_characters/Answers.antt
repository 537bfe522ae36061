use Rattle.std.proofs.Common.{rules}
use Rattle.vga_dots.proofs.line.shown_characters.Goals as goal

pub returns-clause-value : goal.returns-clause-value
returns-clause-value c = search rules

pub returns-clause-few : goal.returns-clause-few
returns-clause-few c = search rules
