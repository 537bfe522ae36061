use Rattle.std.proofs.Common.{rules}
use Rattle.bios_services.proofs.reply.Table.as_slice.Goals as goal

pub returns-in-Empty : goal.returns-in-Empty
returns-in-Empty c = search rules

pub returns-in-Palette : goal.returns-in-Palette
returns-in-Palette c = search rules

pub returns-in-Dac : goal.returns-in-Dac
returns-in-Dac c = search rules
