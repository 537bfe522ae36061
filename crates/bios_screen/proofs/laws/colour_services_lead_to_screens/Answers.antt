use Rattle.bios_screen.proofs.Services.All.{set_colours}
use Rattle.bios_screen.proofs.laws.colour_services_lead_to_screens.Goals as goal

pub returns : goal.returns
returns c = set_colours
