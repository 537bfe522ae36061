-- Why a cycle of a byte at a port is refused, in the state of the adapter before it.
-- From the IBM PS/2 Hardware Interface Technical Reference, Video Subsystems, "Video Subsystem
-- Registers"; which ports are refused is this adapter's profile.
use Rattle.std.specs.Prelude.{ℕ, ◌≡◌, ◌⊎◌, Bool, true, Option, None, Some, if◌then◌else◌}
use Rattle.std.specs.Option.{IsSomeAnd}
use Rattle.vga_bits.specs.Bits.{is_set}
use Rattle.vga_attr.specs.Attr.{selected_register}
use Rattle.vga_card.specs.declared.port.Port.{Port}
use Rattle.vga_card.specs.declared.port.Port.TheVariants.{Attribute, AttributeRegister}
use Rattle.vga_card.specs.declared.port.Port.TheVariants.{MiscellaneousWrite, SubsystemEnable}
use Rattle.vga_card.specs.declared.port.Port.TheVariants.{SequencerData, DacReadIndex}
use Rattle.vga_card.specs.declared.port.Port.TheVariants.{FeatureControl as FeatureControlPort}
use Rattle.vga_card.specs.declared.port.Port.TheVariants.{MiscellaneousRead, GraphicsData, CrtcData}
use Rattle.vga_card.specs.declared.port.Port.TheVariants.{InputStatus1}
use Rattle.vga_card.specs.Port.{port_of, crtc_port_of, port_number, crtc_port}
use Rattle.vga_card.specs.Card.{CardState}
use Rattle.vga_explain.specs.declared.group.Group.{Group}
use Rattle.vga_explain.specs.declared.group.Group.TheVariants.{Sequencer, GraphicsController}
use Rattle.vga_explain.specs.declared.group.Group.TheVariants.{CrtController, AttributeController}
use Rattle.vga_explain.specs.declared.left_out.LeftOut.{LeftOut}
use Rattle.vga_explain.specs.declared.left_out.LeftOut.TheVariants as part
use Rattle.vga_explain.specs.declared.cycle_reason.CycleReason.{CycleReason}
use Rattle.vga_explain.specs.declared.cycle_reason.CycleReason.TheVariants.{NoPort}
use Rattle.vga_explain.specs.declared.cycle_reason.CycleReason.TheVariants.{OtherCrtController}
use Rattle.vga_explain.specs.declared.cycle_reason.CycleReason.TheVariants.{ReadOnly, PortLeftOut}
use Rattle.vga_explain.specs.declared.cycle_reason.CycleReason.TheVariants.{NoRegister, BitLeftOut}
use Rattle.vga_explain.specs.declared.cycle_reason.CycleReason.TheVariants.{FieldLeftOut}
use Rattle.vga_explain.specs.Data.{ExplainsData, IsNoRegister}

-- a value of miscellaneous output with the CRT controller at its other ports
abbrev pub other_misc : ℕ → ℕ
other_misc misc = if is_set misc 0 then 0 else 1

-- the number of the register that a group's index selects
abbrev pub selected : CardState → Group → ℕ
selected c Sequencer = c.host.seq_index
selected c GraphicsController = c.host.gfx_index
selected c CrtController = c.crtc.index
selected c AttributeController = selected_register c.attr

-- whether the next write to a group's data port is data: that of the attribute controller takes an
-- index and data in turn
abbrev pub is_data_next : CardState → Group → Bool
is_data_next c AttributeController = c.attr.is_data
is_data_next c other = true

-- the port through which a group's registers are written
abbrev pub written_at : Group → Port
written_at Sequencer = SequencerData
written_at GraphicsController = GraphicsData
written_at CrtController = CrtcData
written_at AttributeController = Attribute

-- the port through which they are read
abbrev pub read_at : Group → Port
read_at Sequencer = SequencerData
read_at GraphicsController = GraphicsData
read_at CrtController = CrtcData
read_at AttributeController = AttributeRegister

-- the port that reaches a part which is left out, if it is written; none reaches the others so
abbrev pub left_out_of_writes : LeftOut → Option Port
left_out_of_writes part.SubsystemEnable = Some SubsystemEnable
left_out_of_writes part.FeatureControl = Some InputStatus1
left_out_of_writes other = None

-- the port that reaches a part which is left out, if it is read
abbrev pub left_out_of_reads : LeftOut → Option Port
left_out_of_reads part.InputStatus0 = Some MiscellaneousWrite
left_out_of_reads part.SubsystemEnable = Some SubsystemEnable
left_out_of_reads part.DacState = Some DacReadIndex
left_out_of_reads part.FeatureControl = Some FeatureControlPort

-- Why a port is not the adapter's: it is none wherever the CRT controller is; or it would be one if
-- the CRT controller were at its other ports, and what it would reach is at `there` now.
abbrev pub ExplainsNoPort : CardState → ℕ → CycleReason → Type 0
ExplainsNoPort c port (NoPort p) =
    (p ≡ port) × (port_of c.misc port ≡ None) × (crtc_port_of (other_misc c.misc) port ≡ None)
ExplainsNoPort c port (OtherCrtController p base there) =
    (p ≡ port) × (port_of c.misc port ≡ None) × (base ≡ crtc_port c.misc)
    × IsSomeAnd (crtc_port_of (other_misc c.misc) port)
    (λ reached. there ≡ port_number c.misc reached)
ExplainsNoPort c port other = ⊥

-- the port is one of those that only a read reaches
abbrev pub IsReadOnly : Option Port → Type 0
IsReadOnly reached = (reached ≡ Some AttributeRegister) ⊎ (reached ≡ Some FeatureControlPort)
    ⊎ (reached ≡ Some MiscellaneousRead)

-- Why a write of v to a group's data port is refused.
abbrev pub ExplainsDataWrite : CardState → ℕ → ℕ → Group → CycleReason → Type 0
ExplainsDataWrite c port v group reason =
    (port_of c.misc port ≡ Some (written_at group)) × (is_data_next c group ≡ true)
    × ExplainsData group (selected c group) v reason

-- Why a write of v to a port is refused: only a read reaches it, the profile leaves out what it
-- reaches, the register that it is for refuses v, or there is no such port.
abbrev pub ExplainsOut : CardState → ℕ → ℕ → CycleReason → Type 0
ExplainsOut c port v (ReadOnly p) = (p ≡ port) × IsReadOnly (port_of c.misc port)
ExplainsOut c port v (PortLeftOut p part) =
    (p ≡ port) × IsSomeAnd (left_out_of_writes part) (λ at. port_of c.misc port ≡ Some at)
ExplainsOut c port v (NoRegister group index last) =
    ExplainsDataWrite c port v group (NoRegister group index last)
ExplainsOut c port v (BitLeftOut group index bit value) =
    ExplainsDataWrite c port v group (BitLeftOut group index bit value)
ExplainsOut c port v (FieldLeftOut group index high low wanted) =
    ExplainsDataWrite c port v group (FieldLeftOut group index high low wanted)
ExplainsOut c port v reason = ExplainsNoPort c port reason

-- Why a read of a port is refused: the profile leaves out what it reaches, the index selects no
-- register, or there is no such port.
abbrev pub ExplainsInp : CardState → ℕ → CycleReason → Type 0
ExplainsInp c port (PortLeftOut p part) =
    (p ≡ port) × IsSomeAnd (left_out_of_reads part) (λ at. port_of c.misc port ≡ Some at)
ExplainsInp c port (NoRegister group index last) =
    (port_of c.misc port ≡ Some (read_at group))
    × IsNoRegister group (selected c group) (NoRegister group index last)
ExplainsInp c port reason = ExplainsNoPort c port reason
