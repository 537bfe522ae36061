-- The names of faults, as the program prints them.
use Rattle.std.specs.Prelude.{ℕ, List, ◌++◌, codes, decimal}
use Rattle.vga_bits.specs.declared.fault.Fault.{Fault}
use Rattle.vga_bits.specs.declared.fault.Fault.TheVariants.{FontSize, BadMagic, BadVersion, BadStep}
use Rattle.vga_bits.specs.declared.fault.Fault.TheVariants.{Truncated, TooLong, BadLine, ReadFault}
use Rattle.vga_bits.specs.declared.fault.Fault.TheVariants.{WriteFault, OutOfMemory, TooMany}

-- a fault's number and name, and its offset or line in decimal if it has one
abbrev pub fault_text : Fault → List ℕ
fault_text FontSize = codes "F1 FontSize"
fault_text BadMagic = codes "F2 BadMagic"
fault_text BadVersion = codes "F3 BadVersion"
fault_text (BadStep at) = codes "F4 BadStep(" ++ (decimal at ++ codes ")")
fault_text (Truncated at) = codes "F5 Truncated(" ++ (decimal at ++ codes ")")
fault_text TooLong = codes "F6 TooLong"
fault_text (BadLine line) = codes "F7 BadLine(" ++ (decimal line ++ codes ")")
fault_text ReadFault = codes "F8 ReadFault"
fault_text WriteFault = codes "F9 WriteFault"
fault_text OutOfMemory = codes "F10 OutOfMemory"
fault_text (TooMany at) = codes "F11 TooMany(" ++ (decimal at ++ codes ")")
