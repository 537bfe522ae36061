-- What a run answers.
use Rattle.std.specs.Prelude.{ℕ, ⊤, ◌⊎◌, ◌≡◌, ◌≢◌, ◌≤◌, Bool, true, false, List, ◌∷◌, ◌++◌, length}
use Rattle.std.specs.Prelude.{take}
use Rattle.std.specs.Prelude.{Option, Some, IsOkUnless, Result, Ok, Err}
use Rattle.std.specs.Io.KnownBytes.{Appends}
use Rattle.vga_bits.specs.Tracked.{AppendsPrefix}
use Rattle.vga_bits.specs.declared.fault.Fault.{Fault}
use Rattle.vga_bits.specs.declared.fault.Fault.TheVariants.{FontSize, TooLong, ReadFault}
use Rattle.vga_bits.specs.declared.fault.Fault.TheVariants.{WriteFault, OutOfMemory}
use Rattle.bios_modes.specs.Fonts.{FontSet, font_file_len, fonts_of}
use Rattle.vga_script.specs.declared.step.Step.{Step}
use Rattle.vga_script.specs.Spelling.{script_limit}
use Rattle.vga_script.specs.Spelled.{SpellsExpanded}
use Rattle.vga_script.specs.Input.{InputHasFault, InputMeans, IsTooLong}
use Rattle.vga_run.specs.declared.machine.Machine.{Machine}
use Rattle.vga_run.specs.Machine.{power_on_machine}
use Rattle.vga_run.specs.Step.{AllocatesMemory, answer_to, after_step, after_steps}
use Rattle.vga_run.specs.Report.{line, report_from, report_of, steps_until}

-- What taking step n on this machine answers, over a writer whose contents are `before` and
-- `after`, and which may have failed. Its line is written; or a prefix of it, if the writer failed;
-- or nothing, if an allocation failed.
abbrev pub WritesStep : Option (List ℕ) → Option (List ℕ) → Bool → Result Unit Fault → Machine → ℕ →
    Step → Type 0
WritesStep before after failed (Ok u) m n step = Appends before after (line n (answer_to m step))
    × (failed ≡ false)
WritesStep before after failed (Err e) m n step =
    ((e ≡ WriteFault) × (failed ≡ true) × AppendsPrefix before after (line n (answer_to m step)))
    ⊎ ((e ≡ OutOfMemory) × (failed ≡ false) × AllocatesMemory m step × (after ≡ before))

-- An allocation failed while these steps were taken from this machine on, the first with the number
-- n. It failed in a step that allocates. The answers of the steps before it are written, each
-- whole.
abbrev pub RunsOutOfMemoryIn : Machine → ℕ → List Step → Option (List ℕ) → Option (List ℕ) → Type 0
RunsOutOfMemoryIn m n steps before after =
    (done : List Step) × (step : Step) × (others : List Step) × (steps ≡ done ++ step ∷ others)
    × AllocatesMemory (after_steps m done) step × Appends before after (report_from m n done)

-- What taking these steps answers: their report is written; or a prefix of it, if the writer
-- failed; or an allocation failed.
abbrev pub WritesReport : Option (List ℕ) → Option (List ℕ) → Bool → Result Unit Fault → Machine →
    ℕ → List Step → Type 0
WritesReport before after failed (Ok u) m n steps = Appends before after (report_from m n steps)
    × (failed ≡ false)
WritesReport before after failed (Err e) m n steps =
    ((e ≡ WriteFault) × (failed ≡ true) × AppendsPrefix before after (report_from m n steps))
    ⊎ ((e ≡ OutOfMemory) × (failed ≡ false) × RunsOutOfMemoryIn m n steps before after)

-- a machine that has taken this step, or has not
abbrev pub IsTakenOrNot : Machine → Step → Machine → Type 0
IsTakenOrNot old step new = (new ≡ old) ⊎ (new ≡ after_step old step)

-- a machine that has taken some of the first of these steps, none of them in part
abbrev pub HasTakenFirstSteps : Machine → List Step → Machine → Type 0
HasTakenFirstSteps old steps new = (n : ℕ) × (new ≡ after_steps old (take n steps))

-- an allocation failed in the run of some steps from power-on, after the report of the steps before
-- it was written
abbrev pub RunsOutOfMemory : Option ℕ → FontSet → List Step → Option (List ℕ) → Option (List ℕ) → Type 0
RunsOutOfMemory until fonts steps before after = RunsOutOfMemoryIn (power_on_machine fonts) 1
    (steps_until until steps) before after

-- an allocation failed in the run of the script that an input spells
abbrev pub InputRunsOutOfMemory : Option ℕ → FontSet → Option (List ℕ) → Option (List ℕ) → Option (List ℕ) →
    Type 0
InputRunsOutOfMemory until fonts input before after = (steps : List Step) × InputMeans input steps
    × RunsOutOfMemory until fonts steps before after

-- What the run of these steps with these fonts answers, with a limit or without, over a writer
-- whose contents are `before` and `after`. It has written their report, or a prefix of it if the
-- writer failed; or an allocation failed.
abbrev pub ReportsSteps : Option ℕ → FontSet → List Step → Option (List ℕ) → Option (List ℕ) →
    Result Unit Fault → Type 0
ReportsSteps until fonts steps before after (Ok u) =
    Appends before after (report_of fonts (steps_until until steps))
ReportsSteps until fonts steps before after (Err WriteFault) =
    AppendsPrefix before after (report_of fonts (steps_until until steps))
ReportsSteps until fonts steps before after (Err OutOfMemory) = ⊤
ReportsSteps until fonts steps before after (Err _) = ⊥

-- What the run of these steps with a font file answers: what the run with its fonts does, or that
-- the file has the wrong size.
abbrev pub RunsScript : Option ℕ → List ℕ → List Step → Option (List ℕ) → Option (List ℕ) →
    Result Unit Fault → Type 0
RunsScript until file steps before after (Err FontSize) = length file ≢ font_file_len
RunsScript until file steps before after result = (length file ≡ font_file_len)
    × ReportsSteps until (fonts_of file) steps before after result

-- What a run with these fonts answers, with a limit or without, over a reader that contains this
-- input and a writer whose contents are `before` and `after`. It has written the report of the
-- input's script, or a prefix of it if the writer failed; or it returns the first fault of the
-- input.
abbrev pub ReportsInput : Option ℕ → FontSet → Option (List ℕ) → Option (List ℕ) → Option (List ℕ) →
    Result Unit Fault → Type 0
ReportsInput until fonts input before after (Ok u) = (steps : List Step) × InputMeans input steps
    × Appends before after (report_of fonts (steps_until until steps))
ReportsInput until fonts input before after (Err WriteFault) = (steps : List Step)
    × InputMeans input steps
    × AppendsPrefix before after (report_of fonts (steps_until until steps))
ReportsInput until fonts input before after (Err FontSize) = ⊥
ReportsInput until fonts input before after (Err ReadFault) = ⊤
ReportsInput until fonts input before after (Err TooLong) = IsTooLong input
ReportsInput until fonts input before after (Err OutOfMemory) = ⊤
ReportsInput until fonts input before after (Err fault) = InputHasFault input fault

-- What a run with a font file answers: what the run with its fonts does, or that the file has the
-- wrong size.
abbrev pub RunAnswers : Option ℕ → List ℕ → Option (List ℕ) → Option (List ℕ) → Option (List ℕ) →
    Result Unit Fault → Type 0
RunAnswers until file input before after (Err FontSize) = length file ≢ font_file_len
RunAnswers until file input before after result = (length file ≡ font_file_len)
    × ReportsInput until (fonts_of file) input before after result

-- With a font file of the right size, bytes that spell a script are run, unless an allocation, the
-- reader or the writer fails.
abbrev pub RunsGoodScripts : List ℕ → Option (List ℕ) → Bool → Bool → Result Unit Fault → Type 0
RunsGoodScripts file input read_failed write_failed result =
    (bytes : List ℕ) (steps : List Step) → length file ≡ font_file_len → input ≡ Some bytes →
    length bytes ≤ script_limit → SpellsExpanded bytes steps
    → read_failed ≡ false → write_failed ≡ false → IsOkUnless result OutOfMemory
