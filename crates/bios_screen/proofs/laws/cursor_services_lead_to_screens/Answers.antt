use Rattle.bios_screen.proofs.Services.All.{set_cursor_type, set_cursor, select_page}
use Rattle.bios_screen.proofs.laws.cursor_services_lead_to_screens.Goals as goal

pub returns-clause-kind : goal.returns-clause-kind
returns-clause-kind c = set_cursor_type

pub returns-clause-position : goal.returns-clause-position
returns-clause-position c = set_cursor

pub returns-clause-page : goal.returns-clause-page
returns-clause-page c = select_page
