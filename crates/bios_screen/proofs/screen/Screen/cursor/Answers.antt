use Rattle.std.proofs.Common.{rules}
use Rattle.bios_screen.proofs.screen.Screen.cursor.Goals as goal

pub returns-then-page-lt8 : goal.returns-then-page-lt8
returns-then-page-lt8 c = search rules

pub returns-else-page-lt8 : goal.returns-else-page-lt8
returns-else-page-lt8 c = search rules
