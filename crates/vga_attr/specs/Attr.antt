-- The attribute controller: registers, index, and the flip-flop of its port.
-- From the IBM PS/2 Hardware Interface Technical Reference, Video Subsystems, "Attribute Controller
-- Registers"; which reserved bits a register keeps, and what the palette address source does to
-- writes, is this adapter's choice.
use Rattle.std.specs.Prelude.{ℕ, ◌≡◌, ◌<◌, ◌&&◌, nat_lt, if◌then◌else◌, Bool, true, false, List, []}
use Rattle.std.specs.Prelude.{◌∷◌, length, replicate, slice_index, slice_set, bit_and}
use Rattle.vga_bits.specs.Bits.{is_set, field}
use Rattle.vga_bits.specs.RegFile.{AreWithinMasks}

-- what each register holds, the index, and whether the next write is data
pub record AttrState : Type 0 where
  pub registers : List ℕ
  pub index : ℕ
  pub is_data : Bool

-- the attribute controller at power-on: all is 0, and the next write is an index
abbrev pub power_on_attr : AttrState
power_on_attr = record { registers = replicate 21 0; index = 0; is_data = false }

-- the bits that the registers keep: the sixteen of the palette, mode control, overscan, colour
-- plane enable, horizontal panning, colour select
abbrev pub attr_masks : List ℕ
attr_masks =
    0x3F ∷ 0x3F ∷ 0x3F ∷ 0x3F ∷ 0x3F ∷ 0x3F ∷ 0x3F ∷ 0x3F ∷ 0x3F ∷ 0x3F ∷ 0x3F ∷ 0x3F ∷ 0x3F ∷ 0x3F
    ∷ 0x3F ∷ 0x3F
    ∷ 0xEF ∷ 0xFF ∷ 0x3F ∷ 0x0F ∷ 0x0F ∷ []

-- what holds whatever was written: there are 21 registers, each holds only bits that it keeps, and
-- a palette register keeps six
pub record IsAttr (a : AttrState) : Type 0 where
  pub size : length a.registers ≡ 21
  pub kept : AreWithinMasks attr_masks a.registers
  pub palette : (i : ℕ) → i < 16 → slice_index a.registers i < 64

-- the number of the register that the index selects
abbrev pub selected_register : AttrState → ℕ
selected_register a = field a.index 4 0

-- whether the palette address source keeps a register from writes: a palette register, while the
-- source is 1
abbrev pub is_locked : AttrState → ℕ → Bool
is_locked a i = nat_lt i 16 && is_set a.index 5

-- whether a write is refused: it is data, and the index selects no register
abbrev pub is_refused_write : AttrState → Bool
is_refused_write a = a.is_data && nat_lt 20 (selected_register a)

-- the registers after data is written
abbrev pub registers_after_data : AttrState → ℕ → List ℕ
registers_after_data a v =
    if is_locked a (selected_register a) then a.registers
    else slice_set a.registers (selected_register a)
    (bit_and v (slice_index attr_masks (selected_register a)))

-- the attribute controller after a write: data for the register that the index selects, or a new
-- index. After an index, the next write is data; after data, it is an index.
abbrev pub after_write : AttrState → ℕ → AttrState
after_write a v =
    if a.is_data then record a { registers = registers_after_data a v; is_data = false }
    else record a { index = bit_and v 0x3F; is_data = true }

-- whether a read of the register that the index selects is refused: there is no such register
abbrev pub is_refused_read : AttrState → Bool
is_refused_read a = nat_lt 20 (selected_register a)

-- what the register that the index selects holds
abbrev pub selected_register_value : AttrState → ℕ
selected_register_value a = slice_index a.registers (selected_register a)

-- the attribute controller after a read of input status 1: the next write is an index
abbrev pub after_flip_flop_reset : AttrState → AttrState
after_flip_flop_reset a = record a { is_data = false }
