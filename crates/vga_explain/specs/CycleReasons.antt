-- Reasons why a cycle is refused, and which refusal each explains.
-- From the IBM PS/2 Hardware Interface Technical Reference, Video Subsystems; which ports and
-- values are refused is this adapter's profile.
use Rattle.std.specs.Prelude.{ℕ, Option, None, Some, Result, Ok, Err}
use Rattle.vga_bits.specs.declared.refusal.Refusal.{Refusal}
use Rattle.vga_bits.specs.declared.refusal.Refusal.TheVariants.{NotDecoded, NotInProfile}
use Rattle.vga_explain.specs.declared.group.Group.{Group}
use Rattle.vga_explain.specs.declared.group.Group.TheVariants.{Sequencer, GraphicsController}
use Rattle.vga_explain.specs.declared.group.Group.TheVariants.{CrtController, AttributeController}
use Rattle.vga_explain.specs.declared.cycle_reason.CycleReason.{CycleReason}
use Rattle.vga_explain.specs.declared.cycle_reason.CycleReason.TheVariants.{NoPort}
use Rattle.vga_explain.specs.declared.cycle_reason.CycleReason.TheVariants.{OtherCrtController}
use Rattle.vga_explain.specs.declared.cycle_reason.CycleReason.TheVariants.{ReadOnly, PortLeftOut}
use Rattle.vga_explain.specs.declared.cycle_reason.CycleReason.TheVariants.{NoRegister, BitLeftOut}
use Rattle.vga_explain.specs.declared.cycle_reason.CycleReason.TheVariants.{FieldLeftOut, MemoryOff}
use Rattle.vga_explain.specs.declared.cycle_reason.CycleReason.TheVariants.{OutsideWindow, LastPort}
use Rattle.vga_explain.specs.declared.cycle_reason.CycleReason.TheVariants.{LastAddress}

-- the number of a group's last register
abbrev pub last_register : Group → ℕ
last_register Sequencer = 4
last_register GraphicsController = 8
last_register CrtController = 0x18
last_register AttributeController = 20

-- the refusal that a reason explains
abbrev pub refusal_of : CycleReason → Refusal
refusal_of (NoPort port) = NotDecoded
refusal_of (OtherCrtController port base there) = NotDecoded
refusal_of (ReadOnly port) = NotDecoded
refusal_of (PortLeftOut port part) = NotInProfile
refusal_of (NoRegister group index last) = NotInProfile
refusal_of (BitLeftOut group index bit value) = NotInProfile
refusal_of (FieldLeftOut group index high low wanted) = NotInProfile
refusal_of (MemoryOff address) = NotDecoded
refusal_of (OutsideWindow address map first last) = NotDecoded
refusal_of LastPort = NotDecoded
refusal_of LastAddress = NotDecoded

-- the refusal that a reason explains, if there is a reason
abbrev pub refusal_of_reason : Option CycleReason → Option Refusal
refusal_of_reason None = None
refusal_of_reason (Some reason) = Some (refusal_of reason)

-- the refusal that a cycle answers, if it is refused
abbrev pub refusal_in : {A : Type 0} → Result A Refusal → Option Refusal
refusal_in (Ok answer) = None
refusal_in (Err refusal) = Some refusal
