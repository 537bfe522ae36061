use Rattle.std.proofs.Common.{rules}
use Rattle.bios_services.specs.Cursor.{show_cursor_plan}
use Rattle.bios_services.proofs.cursor.show_cursor.Goals as goal

pub returns-then-page : goal.returns-then-page
unfolding show_cursor_plan
returns-then-page c = search rules

pub returns-else-is_text : goal.returns-else-is_text
unfolding show_cursor_plan
returns-else-is_text c = search rules
