use Rattle.std.proofs.Common.{rules}
use Rattle.vga_bits.proofs.state_fault.StateFault.name.Goals as goal

pub returns-in-BadMagic : goal.returns-in-BadMagic
returns-in-BadMagic c = search rules

pub returns-in-BadVersion : goal.returns-in-BadVersion
returns-in-BadVersion c = search rules

pub returns-in-BadLength : goal.returns-in-BadLength
returns-in-BadLength c = search rules

pub returns-in-BadPart : goal.returns-in-BadPart
returns-in-BadPart c = search rules
