-- Reasons why a step is refused, and which refusal each explains.
use Rattle.std.specs.Prelude.{Option, None, Some}
use Rattle.vga_bits.specs.declared.refusal.Refusal.{Refusal}
use Rattle.vga_bits.specs.declared.refusal.Refusal.TheVariants.{NoMode, WrongKind, TooFar}
use Rattle.bios_services.specs.CallReasons.{refusal_of as refusal_of_call_reason}
use Rattle.vga_explain.specs.declared.reason.Reason.{Reason}
use Rattle.vga_explain.specs.declared.reason.Reason.TheVariants.{Cycle, Call, TooManyDots}
use Rattle.vga_explain.specs.declared.reason.Reason.TheVariants.{NoCellsYet, NoCells}
use Rattle.vga_explain.specs.CycleReasons.{refusal_of as refusal_of_cycle_reason}

-- the refusal that a reason explains
abbrev pub refusal_of : Reason → Refusal
refusal_of (Cycle is_high reason) = refusal_of_cycle_reason reason
refusal_of (Call reason) = refusal_of_call_reason reason
refusal_of (TooManyDots dots most) = TooFar
refusal_of NoCellsYet = NoMode
refusal_of (NoCells mode) = WrongKind

-- the refusal that a reason explains, if there is a reason
abbrev pub refusal_of_reason : Option Reason → Option Refusal
refusal_of_reason None = None
refusal_of_reason (Some reason) = Some (refusal_of reason)
