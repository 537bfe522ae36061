use Rattle.std.proofs.Common.{rules}
use Rattle.bios_modes.proofs.bda.Bda.is_saved.Goals as goal

pub returns-then-bytes-eq-SAVED_LEN : goal.returns-then-bytes-eq-SAVED_LEN
returns-then-bytes-eq-SAVED_LEN c = search rules

pub returns-else-bytes-eq-SAVED_LEN : goal.returns-else-bytes-eq-SAVED_LEN
returns-else-bytes-eq-SAVED_LEN c = search rules
