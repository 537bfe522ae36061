use Rattle.bios_screen.proofs.Services.All.{write_pixel, read_pixel}
use Rattle.bios_screen.proofs.laws.pixel_services_lead_to_screens.Goals as goal

pub returns-clause-written : goal.returns-clause-written
returns-clause-written c = write_pixel

pub returns-clause-read : goal.returns-clause-read
returns-clause-read c = read_pixel
