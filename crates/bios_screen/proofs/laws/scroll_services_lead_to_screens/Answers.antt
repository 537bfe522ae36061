use Rattle.bios_screen.proofs.Services.All.{scroll_up, scroll_down}
use Rattle.bios_screen.proofs.laws.scroll_services_lead_to_screens.Goals as goal

pub returns-clause-up : goal.returns-clause-up
returns-clause-up c = scroll_up

pub returns-clause-down : goal.returns-clause-down
returns-clause-down c = scroll_down
