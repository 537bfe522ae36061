-- Reasons as numbers: the kind of a reason, and the numbers that decide it, in the order of its
-- parts, with 0 behind them.
use Rattle.std.specs.Prelude.{ℕ, List, [], ◌∷◌, nat_le, if◌then◌else◌}
use Rattle.bios_services.specs.declared.call_reason.CallReason.{CallReason}
use Rattle.bios_services.specs.declared.call_reason.CallReason.TheVariants.{NoModeSet, NoService, NoSuchMode, NoPixels}
use Rattle.bios_services.specs.declared.call_reason.CallReason.TheVariants.{NoCharacterMap, NoPage, CursorOutside, PositionOutside}
use Rattle.bios_services.specs.declared.call_reason.CallReason.TheVariants.{PixelOutside, CellsPast, GlyphsPast, NoPaletteRegister}
use Rattle.bios_services.specs.declared.call_reason.CallReason.TheVariants.{NoBlinking, NoEntry, NoEntries, WrongBlock}
use Rattle.bios_services.specs.declared.call_reason.CallReason.TheVariants.{NoHeight}
use Rattle.vga_explain.specs.declared.cycle_reason.CycleReason.{CycleReason}
use Rattle.vga_explain.specs.declared.cycle_reason.CycleReason.TheVariants.{NoPort, OtherCrtController, ReadOnly, PortLeftOut}
use Rattle.vga_explain.specs.declared.cycle_reason.CycleReason.TheVariants.{NoRegister, BitLeftOut, FieldLeftOut, MemoryOff}
use Rattle.vga_explain.specs.declared.cycle_reason.CycleReason.TheVariants.{OutsideWindow, LastPort, LastAddress}
use Rattle.vga_explain.specs.declared.group.Group.{Group}
use Rattle.vga_explain.specs.declared.group.Group.TheVariants as group
use Rattle.vga_explain.specs.declared.left_out.LeftOut.{LeftOut}
use Rattle.vga_explain.specs.declared.left_out.LeftOut.TheVariants as parts
use Rattle.vga_explain.specs.declared.reason.Reason.{Reason}
use Rattle.vga_explain.specs.declared.reason.Reason.TheVariants.{Cycle, Call, TooManyDots}
use Rattle.vga_explain.specs.declared.reason.Reason.TheVariants.{NoCellsYet, NoCells}

-- the number of a group of registers
abbrev pub group_number : Group → ℕ
group_number group.Sequencer = 0
group_number group.GraphicsController = 1
group_number group.CrtController = 2
group_number group.AttributeController = 3

-- the number of a part that the adapter leaves out
abbrev pub part_number : LeftOut → ℕ
part_number parts.InputStatus0 = 0
part_number parts.SubsystemEnable = 1
part_number parts.DacState = 2
part_number parts.FeatureControl = 3

-- a count, or the highest word of 32 bits if it is more
abbrev pub word_or_most : ℕ → ℕ
word_or_most count = if nat_le count 0xFFFF_FFFF then count else 0xFFFF_FFFF

-- the kind of a reason why a cycle is refused
abbrev pub cycle_kind : CycleReason → ℕ
cycle_kind (NoPort port) = 1
cycle_kind (OtherCrtController port base there) = 2
cycle_kind (ReadOnly port) = 3
cycle_kind (PortLeftOut port part) = 4
cycle_kind (NoRegister group index last) = 5
cycle_kind (BitLeftOut group index bit value) = 6
cycle_kind (FieldLeftOut group index high low wanted) = 7
cycle_kind (MemoryOff address) = 8
cycle_kind (OutsideWindow address map first last) = 9
cycle_kind LastPort = 10
cycle_kind LastAddress = 11

-- the numbers of such a reason
abbrev pub cycle_numbers : CycleReason → List ℕ
cycle_numbers (NoPort port) = port ∷ 0 ∷ 0 ∷ 0 ∷ 0 ∷ []
cycle_numbers (OtherCrtController port base there) = port ∷ base ∷ there ∷ 0 ∷ 0 ∷ []
cycle_numbers (ReadOnly port) = port ∷ 0 ∷ 0 ∷ 0 ∷ 0 ∷ []
cycle_numbers (PortLeftOut port part) = port ∷ part_number part ∷ 0 ∷ 0 ∷ 0 ∷ []
cycle_numbers (NoRegister group index last) = group_number group ∷ index ∷ last ∷ 0 ∷ 0 ∷ []
cycle_numbers (BitLeftOut group index bit value) = group_number group ∷ index ∷ bit ∷ value ∷ 0 ∷ []
cycle_numbers (FieldLeftOut group index high low wanted) = group_number group ∷ index ∷ high ∷ low ∷ wanted ∷ []
cycle_numbers (MemoryOff address) = address ∷ 0 ∷ 0 ∷ 0 ∷ 0 ∷ []
cycle_numbers (OutsideWindow address map first last) = address ∷ map ∷ first ∷ last ∷ 0 ∷ []
cycle_numbers LastPort = 0 ∷ 0 ∷ 0 ∷ 0 ∷ 0 ∷ []
cycle_numbers LastAddress = 0 ∷ 0 ∷ 0 ∷ 0 ∷ 0 ∷ []

-- the kind of a reason why a call of the video BIOS is refused
abbrev pub call_kind : CallReason → ℕ
call_kind (NoModeSet function) = 12
call_kind (NoService function al bl) = 13
call_kind (NoSuchMode mode) = 14
call_kind (NoPixels mode) = 15
call_kind (NoCharacterMap mode) = 16
call_kind (NoPage page pages) = 17
call_kind (CursorOutside page cell cells) = 18
call_kind (PositionOutside row column rows columns) = 19
call_kind (PixelOutside x y width height) = 20
call_kind (CellsPast count first cells) = 21
call_kind (GlyphsPast count first) = 22
call_kind (NoPaletteRegister register) = 23
call_kind (NoBlinking value) = 24
call_kind (NoEntry entry) = 25
call_kind (NoEntries count first) = 26
call_kind (WrongBlock len wanted) = 27
call_kind (NoHeight height mode) = 28

-- the numbers of such a reason
abbrev pub call_numbers : CallReason → List ℕ
call_numbers (NoModeSet function) = function ∷ 0 ∷ 0 ∷ 0 ∷ 0 ∷ []
call_numbers (NoService function al bl) = function ∷ al ∷ bl ∷ 0 ∷ 0 ∷ []
call_numbers (NoSuchMode mode) = mode ∷ 0 ∷ 0 ∷ 0 ∷ 0 ∷ []
call_numbers (NoPixels mode) = mode ∷ 0 ∷ 0 ∷ 0 ∷ 0 ∷ []
call_numbers (NoCharacterMap mode) = mode ∷ 0 ∷ 0 ∷ 0 ∷ 0 ∷ []
call_numbers (NoPage page pages) = page ∷ pages ∷ 0 ∷ 0 ∷ 0 ∷ []
call_numbers (CursorOutside page cell cells) = page ∷ cell ∷ cells ∷ 0 ∷ 0 ∷ []
call_numbers (PositionOutside row column rows columns) = row ∷ column ∷ rows ∷ columns ∷ 0 ∷ []
call_numbers (PixelOutside x y width height) = x ∷ y ∷ width ∷ height ∷ 0 ∷ []
call_numbers (CellsPast count first cells) = count ∷ first ∷ cells ∷ 0 ∷ 0 ∷ []
call_numbers (GlyphsPast count first) = count ∷ first ∷ 0 ∷ 0 ∷ 0 ∷ []
call_numbers (NoPaletteRegister register) = register ∷ 0 ∷ 0 ∷ 0 ∷ 0 ∷ []
call_numbers (NoBlinking value) = value ∷ 0 ∷ 0 ∷ 0 ∷ 0 ∷ []
call_numbers (NoEntry entry) = entry ∷ 0 ∷ 0 ∷ 0 ∷ 0 ∷ []
call_numbers (NoEntries count first) = count ∷ first ∷ 0 ∷ 0 ∷ 0 ∷ []
call_numbers (WrongBlock len wanted) = word_or_most len ∷ word_or_most wanted ∷ 0 ∷ 0 ∷ 0 ∷ []
call_numbers (NoHeight height mode) = height ∷ mode ∷ 0 ∷ 0 ∷ 0 ∷ []

-- the kind of a reason
abbrev pub reason_kind : Reason → ℕ
reason_kind (Cycle is_high reason) = cycle_kind reason
reason_kind (Call reason) = call_kind reason
reason_kind (TooManyDots dots most) = 29
reason_kind NoCellsYet = 30
reason_kind (NoCells mode) = 31

-- the numbers of a reason
abbrev pub reason_numbers : Reason → List ℕ
reason_numbers (Cycle is_high reason) = cycle_numbers reason
reason_numbers (Call reason) = call_numbers reason
reason_numbers (TooManyDots dots most) = dots ∷ most ∷ 0 ∷ 0 ∷ 0 ∷ []
reason_numbers NoCellsYet = 0 ∷ 0 ∷ 0 ∷ 0 ∷ 0 ∷ []
reason_numbers (NoCells mode) = mode ∷ 0 ∷ 0 ∷ 0 ∷ 0 ∷ []
