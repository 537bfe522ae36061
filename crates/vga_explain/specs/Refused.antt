-- Why a step is refused on a machine as it is.
use Rattle.std.specs.Prelude.{ℕ, ◌≡◌, ◌<◌, false, Option, None, Some, length}
use Rattle.vga_bits.specs.declared.refusal.Refusal.{Refusal}
use Rattle.bios_modes.specs.Kinds.{is_text}
use Rattle.bios_services.specs.declared.regs.Regs.{Regs}
use Rattle.bios_services.specs.Calls.{call_of}
use Rattle.bios_services.specs.CallReasons.{ExplainsCall}
use Rattle.vga_card.specs.Dots.{most_dots_of_an_advance}
use Rattle.vga_script.specs.declared.dump_range.Shown.TheVariants as shown
use Rattle.vga_script.specs.declared.step.Step.{Step}
use Rattle.vga_script.specs.declared.step.Step.TheVariants.{Out, OutWord, In, InWord, Put, PutWord}
use Rattle.vga_script.specs.declared.step.Step.TheVariants.{Get, GetWord, Int, Advance, Show}
use Rattle.vga_run.specs.declared.machine.Machine.{Machine}
use Rattle.vga_run.specs.declared.answer.Answer.TheVariants.{Refused}
use Rattle.vga_run.specs.Answer.{StepAnswer, Short}
use Rattle.vga_explain.specs.declared.reason.Reason.{Reason}
use Rattle.vga_explain.specs.declared.reason.Reason.TheVariants.{Cycle, Call, TooManyDots}
use Rattle.vga_explain.specs.declared.reason.Reason.TheVariants.{NoCellsYet, NoCells}
use Rattle.vga_explain.specs.Ports.{ExplainsOut, ExplainsInp}
use Rattle.vga_explain.specs.Accesses.{ExplainsAccess}
use Rattle.vga_explain.specs.Words.{ExplainsOutWord, ExplainsInpWord, ExplainsAccessWord}

-- the refusal in what a step answers, if it is one
abbrev pub refusal_in_answer : StepAnswer → Option Refusal
refusal_in_answer (Short (Refused refusal)) = Some refusal
refusal_in_answer other = None

-- there are no cells to show: no mode is set, or the mode is graphics
abbrev pub AreNoCells : ℕ → Reason → Type 0
AreNoCells m NoCellsYet = m ≡ 0
AreNoCells m (NoCells mode) = (mode ≡ m) × (is_text mode ≡ false)
AreNoCells m other = ⊥

-- Why a step is refused: its cycle or its call is, it advances by more dots than a step may, or
-- there are no cells to show.
abbrev pub Explains : Machine → Step → Reason → Type 0
Explains m (Out port value) (Cycle false reason) = ExplainsOut m.card port value reason
Explains m (OutWord port value) (Cycle is_high reason) =
    ExplainsOutWord m.card port value is_high reason
Explains m (In port) (Cycle false reason) = ExplainsInp m.card port reason
Explains m (InWord port) (Cycle is_high reason) = ExplainsInpWord m.card port is_high reason
Explains m (Put address value) (Cycle false reason) = ExplainsAccess m.card address reason
Explains m (PutWord address value) (Cycle is_high reason) =
    ExplainsAccessWord m.card address is_high reason
Explains m (Get address) (Cycle false reason) = ExplainsAccess m.card address reason
Explains m (GetWord address) (Cycle is_high reason) =
    ExplainsAccessWord m.card address is_high reason
Explains m (Int ax bx cx dx block) (Call reason) =
    let regs : Regs = record { ax = ax; bx = bx; cx = cx; dx = dx } in
    ExplainsCall (call_of regs) m.bda regs (length block) reason
Explains m (Advance count) (TooManyDots dots most) =
    (dots ≡ count) × (most ≡ most_dots_of_an_advance) × (most < dots)
Explains m (Show shown.Cells) reason = AreNoCells m.bda.mode reason
Explains m step other = ⊥
