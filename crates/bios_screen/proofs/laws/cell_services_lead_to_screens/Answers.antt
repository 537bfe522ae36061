use Rattle.bios_screen.proofs.Services.All.{read_cell, write_cells}
use Rattle.bios_screen.proofs.laws.cell_services_lead_to_screens.Goals as goal

pub returns-clause-read : goal.returns-clause-read
returns-clause-read c = read_cell

pub returns-clause-written : goal.returns-clause-written
returns-clause-written c = write_cells
