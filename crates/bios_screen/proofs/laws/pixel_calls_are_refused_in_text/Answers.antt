use Rattle.bios_screen.proofs.Services.All.{dot_refused, read_refused}
use Rattle.bios_screen.proofs.laws.pixel_calls_are_refused_in_text.Goals as goal

pub returns-clause-written : goal.returns-clause-written
returns-clause-written c = dot_refused

pub returns-clause-read : goal.returns-clause-read
returns-clause-read c = read_refused
