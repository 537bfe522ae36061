-- What a step shows: the part of the adapter, its bounds, and its bytes.
use Rattle.std.specs.Prelude.{ℕ, ◌<◌, ◌≤◌, ◌+◌, ◌^◌, List, [], ◌∷◌, ◌++◌}
use Rattle.byteorder.specs.Endian.{little_bytes}
use Rattle.vga_script.specs.declared.dump_range.Shown.{Shown}
use Rattle.vga_script.specs.declared.dump_range.Shown.TheVariants as shown

-- The index of a DAC entry is below 256. Of one of the four planes 1 to 256 bytes are shown, none
-- past the plane's end.
abbrev pub IsShownInRange : Shown → Type 0
IsShownInRange shown.Registers = Unit {0}
IsShownInRange (shown.Dac index) = index < 2 ^ 8
IsShownInRange shown.Beam = Unit {0}
IsShownInRange shown.Latches = Unit {0}
IsShownInRange (shown.Plane plane offset count) = (plane < 4) × (0 < count) × (count ≤ 256)
    × (offset + count ≤ 2 ^ 16)
IsShownInRange shown.BiosData = Unit {0}
IsShownInRange shown.Cells = Unit {0}

-- the kind of the registers
abbrev pub kind_registers : ℕ
kind_registers = 0x00

-- the kind of an entry of the DAC
abbrev pub kind_dac : ℕ
kind_dac = 0x01

-- the kind of the beam
abbrev pub kind_beam : ℕ
kind_beam = 0x02

-- the kind of the latches
abbrev pub kind_latches : ℕ
kind_latches = 0x03

-- the kind of bytes of a plane
abbrev pub kind_plane : ℕ
kind_plane = 0x04

-- the kind of the BIOS data
abbrev pub kind_bios_data : ℕ
kind_bios_data = 0x05

-- the kind of the cells of the active page
abbrev pub kind_cells : ℕ
kind_cells = 0x06

-- the bytes of what is shown: its kind, and its fields with the low byte first
abbrev pub operand_bytes_of_show : Shown → List ℕ
operand_bytes_of_show shown.Registers = kind_registers ∷ []
operand_bytes_of_show (shown.Dac index) = kind_dac ∷ index ∷ []
operand_bytes_of_show shown.Beam = kind_beam ∷ []
operand_bytes_of_show shown.Latches = kind_latches ∷ []
operand_bytes_of_show (shown.Plane plane offset count) = kind_plane ∷ plane ∷ (little_bytes 2 offset
    ++ little_bytes 2 count)
operand_bytes_of_show shown.BiosData = kind_bios_data ∷ []
operand_bytes_of_show shown.Cells = kind_cells ∷ []
