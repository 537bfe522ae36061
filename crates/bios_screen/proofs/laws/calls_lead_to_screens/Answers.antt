use Rattle.bios_screen.proofs.Services.Calls.{calls_lead, unknown_refused, mode_refused}
use Rattle.bios_screen.proofs.Services.LoadCalls.{load_leads}
use Rattle.bios_screen.proofs.Services.Tables.{tables_read, memory_wanted}
use Rattle.bios_screen.proofs.laws.calls_lead_to_screens.Goals as goal

pub returns-clause-served : goal.returns-clause-served
returns-clause-served c = calls_lead

pub returns-clause-loaded : goal.returns-clause-loaded
returns-clause-loaded c load fonts r block cs d s z bytes are shows e = load_leads fonts load r block bytes are cs d s z shows e

pub returns-clause-unknown : goal.returns-clause-unknown
returns-clause-unknown c = unknown_refused

pub returns-clause-mode : goal.returns-clause-mode
returns-clause-mode c = mode_refused

pub returns-clause-table : goal.returns-clause-table
returns-clause-table c = tables_read

pub returns-clause-memory : goal.returns-clause-memory
returns-clause-memory c = memory_wanted
