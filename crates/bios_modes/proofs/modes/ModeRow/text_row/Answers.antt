use Rattle.std.proofs.Common.{rules}
use Rattle.bios_modes.proofs.modes.ModeRow.text_row.Goals as goal

pub returns-in-Text-Monochrome : goal.returns-in-Text-Monochrome
returns-in-Text-Monochrome c = search rules
