use Rattle.std.proofs.Common.{rules}
use Rattle.bios_modes.proofs.bda.Bda.set_cursor_type.Goals as goal

pub returns : goal.returns
returns c = search rules
