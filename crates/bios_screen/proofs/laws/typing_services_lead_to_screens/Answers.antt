use Rattle.bios_screen.proofs.Services.All.{teletype, write_string}
use Rattle.bios_screen.proofs.laws.typing_services_lead_to_screens.Goals as goal

pub returns-clause-character : goal.returns-clause-character
returns-clause-character c = teletype

pub returns-clause-string : goal.returns-clause-string
returns-clause-string c = write_string
