use Rattle.std.proofs.Common.{rules}
use Rattle.vga_bits.proofs.fault.Fault.name.Goals as goal

pub returns-in-FontSize : goal.returns-in-FontSize
returns-in-FontSize c = search rules

pub returns-in-BadMagic : goal.returns-in-BadMagic
returns-in-BadMagic c = search rules

pub returns-in-BadVersion : goal.returns-in-BadVersion
returns-in-BadVersion c = search rules

pub returns-in-BadStep : goal.returns-in-BadStep
returns-in-BadStep c = search rules

pub returns-in-Truncated : goal.returns-in-Truncated
returns-in-Truncated c = search rules

pub returns-in-TooLong : goal.returns-in-TooLong
returns-in-TooLong c = search rules

pub returns-in-BadLine : goal.returns-in-BadLine
returns-in-BadLine c = search rules

pub returns-in-ReadFault : goal.returns-in-ReadFault
returns-in-ReadFault c = search rules

pub returns-in-WriteFault : goal.returns-in-WriteFault
returns-in-WriteFault c = search rules

pub returns-in-OutOfMemory : goal.returns-in-OutOfMemory
returns-in-OutOfMemory c = search rules

pub returns-in-TooMany : goal.returns-in-TooMany
returns-in-TooMany c = search rules
