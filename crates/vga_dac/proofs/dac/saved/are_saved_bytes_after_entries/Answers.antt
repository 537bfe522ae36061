use Rattle.std.proofs.Common.{rules}
use Rattle.vga_dac.proofs.dac.saved.are_saved_bytes_after_entries.Goals as goal

pub returns-then-bytes-le-COMPONENT_MASK : goal.returns-then-bytes-le-COMPONENT_MASK
returns-then-bytes-le-COMPONENT_MASK c = search rules

pub returns-else-bytes-le-COMPONENT_MASK : goal.returns-else-bytes-le-COMPONENT_MASK
returns-else-bytes-le-COMPONENT_MASK c = search rules
