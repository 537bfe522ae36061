use Rattle.std.proofs.Common.{rules}
use Rattle.vga_show.proofs.cells.cells_refusal.Goals as goal

pub returns-then-mode-eq0 : goal.returns-then-mode-eq0
returns-then-mode-eq0 c = search rules

pub returns-then-is_text : goal.returns-then-is_text
returns-then-is_text c = search rules

pub returns-else-is_text : goal.returns-else-is_text
returns-else-is_text c = search rules
