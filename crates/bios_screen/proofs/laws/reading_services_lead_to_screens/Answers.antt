use Rattle.bios_screen.proofs.Services.All.{read_cursor, read_mode, read_adapter, read_display}
use Rattle.bios_screen.proofs.laws.reading_services_lead_to_screens.Goals as goal

pub returns-clause-cursor : goal.returns-clause-cursor
returns-clause-cursor c = read_cursor

pub returns-clause-mode : goal.returns-clause-mode
returns-clause-mode c = read_mode

pub returns-clause-adapter : goal.returns-clause-adapter
returns-clause-adapter c = read_adapter

pub returns-clause-display : goal.returns-clause-display
returns-clause-display c = read_display
