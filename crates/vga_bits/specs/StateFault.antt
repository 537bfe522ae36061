-- The names of the faults of saved states.
use Rattle.std.specs.Prelude.{ℕ, List, codes}
use Rattle.vga_bits.specs.declared.state_fault.StateFault.{StateFault}
use Rattle.vga_bits.specs.declared.state_fault.StateFault.TheVariants.{BadMagic, BadVersion}
use Rattle.vga_bits.specs.declared.state_fault.StateFault.TheVariants.{BadLength, BadPart}

-- a fault's name
abbrev pub state_fault_name : StateFault → List ℕ
state_fault_name BadMagic = codes "BadMagic"
state_fault_name BadVersion = codes "BadVersion"
state_fault_name BadLength = codes "BadLength"
state_fault_name BadPart = codes "BadPart"
