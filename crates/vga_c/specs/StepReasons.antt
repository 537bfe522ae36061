-- Why a step of a script is refused, as the caller gets it.
use Rattle.std.specs.Prelude.{◌≡◌, ◌⊎◌, ◌≤◌, ℕ, Bool, true, false, None, Some}
use Rattle.std.specs.Prelude.{List, [], ◌∷◌, length, drop}
use Rattle.vga_bits.specs.declared.fault.Fault.{Fault}
use Rattle.bios_modes.specs.Valid.{IsValid}
use Rattle.vga_script.specs.declared.step.Step.{Step}
use Rattle.vga_script.specs.Decoding.{IsFault}
use Rattle.vga_script.specs.Spelled.{SpellsExpanded}
use Rattle.vga_script.specs.Spelling.{script_limit}
use Rattle.vga_run.specs.declared.machine.Machine.{Machine}
use Rattle.vga_run.specs.Step.{answer_to}
use Rattle.vga_explain.specs.declared.reason.Reason.{Reason}
use Rattle.vga_explain.specs.declared.reason.Reason.TheVariants.{Cycle}
use Rattle.vga_explain.specs.Reasons.{refusal_of}
use Rattle.vga_explain.specs.Refused.{refusal_in_answer, Explains}
use Rattle.vga_c.specs.declared.step_reasons.StepReason.{StepReason}
use Rattle.vga_c.specs.Buffers.{IsCopied}
use Rattle.vga_c.specs.Handle.{HandleState, machine_after_owed_dots}
use Rattle.vga_c.specs.Outcome.{fault_place, fault_status}
use Rattle.vga_c.specs.ReasonNumbers.{reason_kind, reason_numbers}
use Rattle.vga_c.specs.Status.{bad_argument_status, refusal_status}

-- The caller's output: what is told of the step, a sentence, and its length.
pub record ReasonOutput : Type 0 where
  pub reason : StepReason
  pub text : List ℕ
  pub len : ℕ

-- an output with these contents
abbrev pub reason_output : StepReason → List ℕ → ℕ → ReasonOutput
reason_output reason text len = record { reason = reason; text = text; len = len }

-- The caller's output, with the place of a fault in the script.
pub record PlacedOutput : Type 0 where
  pub told : ReasonOutput
  pub place : ℕ

-- an output with these contents
abbrev pub placed_output : ReasonOutput → ℕ → PlacedOutput
placed_output told place = record { told = told; place = place }

-- what is told of a step that would be done
abbrev pub no_reason : StepReason
no_reason = record {
  status = 0;
  kind = 0;
  numbers = 0 ∷ 0 ∷ 0 ∷ 0 ∷ 0 ∷ [];
  is_high = false;
}

-- whether a reason is one of the high byte of a word
abbrev pub is_high_of : Reason → Bool
is_high_of (Cycle is_high reason) = is_high
is_high_of other = false

-- what is told of a reason: the status of the refusal that it explains, its kind, and its numbers
abbrev pub told_of_reason : Reason → StepReason
told_of_reason reason = record {
  status = refusal_status (refusal_of reason);
  kind = reason_kind reason;
  numbers = reason_numbers reason;
  is_high = is_high_of reason;
}

-- the reason is told, with a sentence
abbrev pub IsReasonTold : Reason → ReasonOutput → ReasonOutput → ℕ → Type 0
IsReasonTold reason before after status = (after.reason ≡ told_of_reason reason)
    × ((sentence : List ℕ) × IsCopied sentence before.text after.text after.len status)

-- the machine would do the step: nothing is told, and there is no sentence
abbrev pub IsDoneTold : Machine → Step → ReasonOutput → ReasonOutput → ℕ → Type 0
IsDoneTold m step before after status = (refusal_in_answer (answer_to m step) ≡ None)
    × (after.reason ≡ no_reason) × IsCopied [] before.text after.text after.len status

-- the machine would refuse the step, and a reason is told that explains the refusal
abbrev pub IsRefusalTold : Machine → Step → ReasonOutput → ReasonOutput → ℕ → Type 0
IsRefusalTold m step before after status = (reason : Reason)
    × (refusal_in_answer (answer_to m step) ≡ Some (refusal_of reason)) × Explains m step reason
    × IsReasonTold reason before after status

-- what a machine would do with a step is told
abbrev pub TellsReasonOfStep : Machine → Step → ReasonOutput → ReasonOutput → ℕ → Type 0
TellsReasonOfStep m step before after status = IsDoneTold m step before after status
    ⊎ IsRefusalTold m step before after status

-- what a machine would do with the first of some steps is told; with none the argument is bad
abbrev pub TellsReasonOfFirst : Machine → List Step → ReasonOutput → ReasonOutput → ℕ → Type 0
TellsReasonOfFirst m [] before after status = (after ≡ before) × (status ≡ bad_argument_status)
TellsReasonOfFirst m (step ∷ others) before after status =
    TellsReasonOfStep m step before after status

-- the bytes spell a script, and of its step after the first `skipped` it is told what a machine
-- would do
abbrev pub TellsReasonOfScriptStep : Machine → List ℕ → ℕ → PlacedOutput → PlacedOutput → ℕ → Type 0
TellsReasonOfScriptStep m script skipped before after status = (length script ≤ script_limit)
    × ((steps : List Step) × SpellsExpanded script steps
    × TellsReasonOfFirst m (drop skipped steps) before.told after.told status
    × (after.place ≡ before.place))

-- the bytes spell no script, and the caller learns the first fault
abbrev pub IsScriptFaultTold : List ℕ → PlacedOutput → PlacedOutput → ℕ → Type 0
IsScriptFaultTold script before after status = (why : Fault) × IsFault script why
    × (status ≡ fault_status why)
    × (after ≡ placed_output before.told (fault_place why before.place))

-- what a machine would do with a step of a script is told; or the script's first fault
abbrev pub TellsReasonInScript : Machine → List ℕ → ℕ → PlacedOutput → PlacedOutput → ℕ → Type 0
TellsReasonInScript m script skipped before after status =
    TellsReasonOfScriptStep m script skipped before after status
    ⊎ IsScriptFaultTold script before after status

-- what an open card with valid BIOS data would do with a step of a script is told; or the script's
-- first fault
abbrev pub OpenCardTellsReason : List ℕ → ℕ → HandleState → PlacedOutput → PlacedOutput → ℕ → Type 0
OpenCardTellsReason script skipped old before after status = old.is_open ≡ true →
    IsValid (machine_after_owed_dots old).bda →
    TellsReasonInScript (machine_after_owed_dots old) script skipped before after status
