-- What taking steps of a script does to an open card, and what the caller gets.
use Rattle.std.specs.Prelude.{◌≡◌, ◌⊎◌, ◌+◌, ◌≤◌, ℕ, true, List, length, take, drop}
use Rattle.vga_bits.specs.declared.fault.Fault.{Fault}
use Rattle.bios_modes.specs.Valid.{IsValid}
use Rattle.vga_script.specs.declared.step.Step.{Step}
use Rattle.vga_script.specs.Decoding.{IsFault}
use Rattle.vga_script.specs.Spelled.{SpellsExpanded}
use Rattle.vga_script.specs.Spelling.{script_limit}
use Rattle.vga_run.specs.declared.machine.Machine.{Machine}
use Rattle.vga_run.specs.Report.{report_from}
use Rattle.vga_run.specs.Run.{HasTakenFirstSteps}
use Rattle.vga_run.specs.Step.{after_steps}
use Rattle.vga_c.specs.Handle.{HandleState, machine_after_owed_dots}
use Rattle.vga_c.specs.Buffers.{IsCopied}
use Rattle.vga_c.specs.Outcome.{fault_status, fault_place}
use Rattle.vga_c.specs.Status.{out_of_memory_status}

-- The caller's output: a buffer for the report, its length, how many steps were taken, and the
-- place of a fault.
pub record StepsOutput : Type 0 where
  pub report : List ℕ
  pub len : ℕ
  pub taken : ℕ
  pub place : ℕ

-- an output with these contents
abbrev pub steps_output_from_parts : List ℕ → ℕ → ℕ → ℕ → StepsOutput
steps_output_from_parts report len taken place =
    record { report = report; len = len; taken = taken; place = place }

-- the steps that are taken: the first ones are skipped, and then at most `most` are taken
abbrev pub asked_steps : ℕ → ℕ → List Step → List Step
asked_steps first most steps = take most (drop first steps)

-- the steps are taken, the first with this number, and the output has their report
abbrev pub AreStepsTaken : List Step → ℕ → Machine → Machine → StepsOutput → StepsOutput → ℕ
    → Type 0
AreStepsTaken steps number old new before after status = (new ≡ after_steps old steps)
    × (after.taken ≡ length steps) × (after.place ≡ before.place)
    × IsCopied (report_from old number steps) before.report after.report after.len status

-- an allocation failed: some of the first steps are taken, and the output is unchanged
abbrev pub AreStepsCutOffByFailedAllocation : List Step → Machine → Machine → StepsOutput → StepsOutput → ℕ → Type 0
AreStepsCutOffByFailedAllocation steps old new before after status = HasTakenFirstSteps old steps new × (after ≡ before)
    × (status ≡ out_of_memory_status)

-- the steps are taken and the output has their report; or an allocation failed in one of them
abbrev pub AreStepsTakenOrAllocationFails : List Step → ℕ → Machine → Machine → StepsOutput → StepsOutput → ℕ
    → Type 0
AreStepsTakenOrAllocationFails steps number old new before after status =
    AreStepsTaken steps number old new before after status
    ⊎ AreStepsCutOffByFailedAllocation steps old new before after status

-- the bytes spell a script, and these of its steps are taken
abbrev pub TakesStepsOfScript : List ℕ → ℕ → ℕ → Machine → Machine → StepsOutput → StepsOutput → ℕ → Type 0
TakesStepsOfScript script first most old new before after status = (length script ≤ script_limit)
    × ((steps : List Step) × SpellsExpanded script steps
    × AreStepsTakenOrAllocationFails (asked_steps first most steps) (first + 1) old new before after status)

-- the bytes spell no script, the machine stays as it is, and the caller learns the first fault
abbrev pub IsScriptRefused : List ℕ → Machine → Machine → StepsOutput → StepsOutput → ℕ → Type 0
IsScriptRefused script old new before after status = (why : Fault) × IsFault script why × (new ≡ old)
    × (status ≡ fault_status why)
    × (after ≡ steps_output_from_parts before.report before.len before.taken (fault_place why before.place))

-- the bytes spell a script, and some of its steps are taken; or they spell none, and the caller
-- learns the first fault
abbrev pub IsScriptRunOrRefused : List ℕ → ℕ → ℕ → Machine → Machine → StepsOutput → StepsOutput → ℕ → Type 0
IsScriptRunOrRefused script first most old new before after status =
    TakesStepsOfScript script first most old new before after status
    ⊎ IsScriptRefused script old new before after status

-- an open card with valid BIOS data takes some steps of a script, or learns its first fault; the
-- data stay valid
abbrev pub OpenCardRunsScript : List ℕ → ℕ → ℕ → HandleState → HandleState → StepsOutput → StepsOutput → ℕ
    → Type 0
OpenCardRunsScript script first most old new before after status = old.is_open ≡ true →
    IsValid (machine_after_owed_dots old).bda → (new.is_open ≡ true) × (IsValid (machine_after_owed_dots new).bda
    × IsScriptRunOrRefused script first most (machine_after_owed_dots old) (machine_after_owed_dots new) before after status)
