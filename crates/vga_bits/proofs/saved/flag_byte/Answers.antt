use Rattle.std.proofs.Common.{rules}
use Rattle.vga_bits.proofs.saved.flag_byte.Goals as goal

pub returns-then-flag : goal.returns-then-flag
returns-then-flag c = search rules

pub returns-else-flag : goal.returns-else-flag
returns-else-flag c = search rules
