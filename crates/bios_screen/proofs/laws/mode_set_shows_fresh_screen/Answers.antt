use Rattle.bios_screen.proofs.Modes.AnyFresh.{any_set_fresh}
use Rattle.bios_screen.proofs.laws.mode_set_shows_fresh_screen.Goals as goal

pub returns : goal.returns
returns c = any_set_fresh
