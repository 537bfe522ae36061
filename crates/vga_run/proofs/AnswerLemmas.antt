-- What a run answers, from what its parts answer.
use Rattle.std.proofs.Common.{◌≡◌, ◌∙◌, inl, inr, ℕ, ◌<◌, ◌≤◌, Bool, List, length, Option, None, Some, IfSome, Result, Ok, Err, arith, refl, sym, ap, subst}
use Rattle.vga_bits.specs.declared.fault.Fault.{Fault}
use Rattle.vga_bits.specs.declared.fault.Fault.TheVariants.{FontSize, BadMagic, BadVersion, BadStep, Truncated, TooLong, ReadFault, WriteFault, OutOfMemory}
use Rattle.vga_bits.specs.declared.fault.Fault.TheVariants.{TooMany}
use Rattle.bios_modes.specs.Fonts.{FontSet, IsFontFault, font_file_len, fonts_of}
use Rattle.vga_script.specs.declared.step.Step.{Step}
use Rattle.vga_script.specs.Item.{ScriptItems}
use Rattle.vga_script.specs.Spelled.{SpellsExpanded}
use Rattle.vga_script.specs.Spelling.{Spells, script_limit}
use Rattle.vga_bits.specs.LimitedReading.{is_read_fault}
use Rattle.vga_bits.specs.Tracked.{is_write_fault}
use Rattle.vga_script.specs.Input.{InputHasFault, IsInput, FaultStopsReading}
use Rattle.vga_run.specs.declared.machine.Machine.{Machine}
use Rattle.vga_run.specs.Machine.{power_on_machine}
use Rattle.vga_run.specs.Report.{steps_until}
use Rattle.vga_run.specs.Run.{ReportsInput, ReportsSteps, RunAnswers, RunsGoodScripts, RunsScript, RunsOutOfMemoryIn, InputRunsOutOfMemory, RunsOutOfMemory, WritesReport}
use Rattle.vga_script.specs.Decoding.{IsSpellingFault, IsFault}

-- what taking the steps of a script answers is what its run does
pub report_answers : (until : Option ℕ) (fonts : FontSet) (steps : List Step) (before after : Option (List ℕ)) (failed : Bool) (result : Result Unit Fault)
    → WritesReport before after failed result (power_on_machine fonts) 1 (steps_until until steps) → ReportsSteps until fonts steps before after result
report_answers until fonts steps before after failed (Ok u) w = w.0
report_answers until fonts steps before after failed (Err e) (inl (is, bad, prefix)) =
    subst (λ (f : Fault). ReportsSteps until fonts steps before after (Err f)) (sym is) prefix
report_answers until fonts steps before after failed (Err e) (inr (is, sound, stops)) =
    subst (λ (f : Fault). ReportsSteps until fonts steps before after (Err f)) (sym is) tt

pub report_fails : (before after : Option (List ℕ)) (failed : Bool) (result : Result Unit Fault) (machine : Machine) (n : ℕ) (steps : List Step)
    → WritesReport before after failed result machine n steps → failed ≡ is_write_fault result
report_fails before after failed (Ok u) machine n steps w = w.1
report_fails before after failed (Err e) machine n steps (inl (is, bad, prefix)) = bad ∙ ap (λ (f : Fault). is_write_fault {A = Unit} (Err f)) (sym is)
report_fails before after failed (Err e) machine n steps (inr (is, sound, stops)) = sound ∙ ap (λ (f : Fault). is_write_fault {A = Unit} (Err f)) (sym is)

pub report_stops : (before after : Option (List ℕ)) (failed : Bool) (result : Result Unit Fault) (machine : Machine) (n : ℕ) (steps : List Step)
    → WritesReport before after failed result machine n steps → result ≡ Err OutOfMemory → RunsOutOfMemoryIn machine n steps before after
report_stops before after failed (Ok u) machine n steps w out = absurd (cc)
report_stops before after failed (Err e) machine n steps (inl (is, bad, prefix)) out = absurd (cc)
report_stops before after failed (Err e) machine n steps (inr (is, sound, stops)) out = stops

-- where memory runs out in the run of a script, it does in that of bytes that spell it
pub stops_of_steps : (until : Option ℕ) (fonts : FontSet) (bytes : List ℕ) (before after : Option (List ℕ)) (steps : List Step)
    → length bytes ≤ script_limit → SpellsExpanded bytes steps → RunsOutOfMemory until fonts steps before after → InputRunsOutOfMemory until fonts (Some bytes) before after
stops_of_steps until fonts bytes before after steps few spelled stops = (steps, (bytes, (refl, few), spelled), stops)

-- what the run of a script answers is the answer for bytes that spell it
pub reports_of_steps : (until : Option ℕ) (fonts : FontSet) (bytes : List ℕ) (before after : Option (List ℕ)) (result : Result Unit Fault) (steps : List Step)
    → length bytes ≤ script_limit → SpellsExpanded bytes steps → ReportsSteps until fonts steps before after result →
    ReportsInput until fonts (Some bytes) before after result
reports_of_steps until fonts bytes before after (Ok u) steps few spelled written = (steps, (bytes, (refl, few), spelled), written)
reports_of_steps until fonts bytes before after (Err WriteFault) steps few spelled written = (steps, (bytes, (refl, few), spelled), written)
reports_of_steps until fonts bytes before after (Err OutOfMemory) steps few spelled h = tt
reports_of_steps until fonts bytes before after (Err _) steps few spelled h = absurd h

-- so is a fault of the bytes, none of which is want of a reader
spelling_answers : (until : Option ℕ) (fonts : FontSet) (bytes : List ℕ) (before after : Option (List ℕ)) (f : Fault)
    → length bytes ≤ script_limit → IsSpellingFault bytes f → ReportsInput until fonts (Some bytes) before after (Err f)
spelling_answers until fonts bytes before after BadMagic few bad = (bytes, (refl, few), bad)
spelling_answers until fonts bytes before after BadVersion few bad = (bytes, (refl, few), bad)
spelling_answers until fonts bytes before after (BadStep at) few bad = (bytes, (refl, few), bad)
spelling_answers until fonts bytes before after (Truncated at) few bad = (bytes, (refl, few), bad)
spelling_answers until fonts bytes before after (TooMany at) few bad = (bytes, (refl, few), bad)
spelling_answers until fonts bytes before after _ few bad = absurd bad

pub fault_answers : (until : Option ℕ) (fonts : FontSet) (bytes : List ℕ) (before after : Option (List ℕ)) (f : Fault)
    → IsFault bytes f → ReportsInput until fonts (Some bytes) before after (Err f)
fault_answers until fonts bytes before after f (inl (is, many)) = subst (λ (x : Fault). ReportsInput until fonts (Some bytes) before after (Err x)) (sym is) many
fault_answers until fonts bytes before after f (inr (few, bad)) = spelling_answers until fonts bytes before after f few bad

-- what a script in memory answers to its run is the answer where these bytes were read
read_bytes : (input : Option (List ℕ)) (bytes others : List ℕ) → IsInput input bytes → IsInput (Some bytes) others → IsInput input others
read_bytes None bytes others read same = (tt, same.1)
read_bytes (Some all) bytes others read same = (read.0 ∙ same.0, same.1)

input_reports : (until : Option ℕ) (fonts : FontSet) (input before after : Option (List ℕ)) (bytes : List ℕ) (result : Result Unit Fault)
    → IsInput input bytes → ReportsInput until fonts (Some bytes) before after result → ReportsInput until fonts input before after result
input_reports until fonts input before after bytes (Ok u) read (steps, (others, same, spelled), written) =
    (steps, (others, read_bytes input bytes others read same, spelled), written)
input_reports until fonts input before after bytes (Err FontSize) read h = h
input_reports until fonts input before after bytes (Err ReadFault) read h = h
input_reports until fonts input before after bytes (Err TooLong) read many = let few = read.1 in absurd (omega arith)
input_reports until fonts input before after bytes (Err WriteFault) read (steps, (others, same, spelled), written) =
    (steps, (others, read_bytes input bytes others read same, spelled), written)
input_reports until fonts input before after bytes (Err OutOfMemory) read h = h
input_reports until fonts input before after bytes (Err _) read (others, same, bad) = (others, read_bytes input bytes others read same, bad)

pub input_stops : (until : Option ℕ) (fonts : FontSet) (input before after : Option (List ℕ)) (bytes : List ℕ)
    → IsInput input bytes → InputRunsOutOfMemory until fonts (Some bytes) before after → InputRunsOutOfMemory until fonts input before after
input_stops until fonts input before after bytes read (steps, (others, same, spelled), stops) =
    (steps, (others, read_bytes input bytes others read same, spelled), stops)

-- what a run over the fonts of a file answers is what one over the file does
of_file : (until : Option ℕ) (file : List ℕ) (input before after : Option (List ℕ)) (result : Result Unit Fault)
    → length file ≡ font_file_len → ReportsInput until (fonts_of file) input before after result → RunAnswers until file input before after result
of_file until file input before after (Ok u) size h = (size, h)
of_file until file input before after (Err FontSize) size h = absurd h
of_file until file input before after (Err f) size h = (size, h)

pub file_answers : (until : Option ℕ) (file : List ℕ) (fonts : FontSet) (input before after : Option (List ℕ)) (result : Result Unit Fault)
    → (length file ≡ font_file_len) × (fonts ≡ fonts_of file) → ReportsInput until fonts input before after result → RunAnswers until file input before after result
file_answers until file fonts input before after result (size, are) h =
    of_file until file input before after result size (subst (λ (f : FontSet). ReportsInput until f input before after result) are h)

pub input_answers : (until : Option ℕ) (file : List ℕ) (fonts : FontSet) (input before after : Option (List ℕ)) (bytes : List ℕ) (result : Result Unit Fault)
    → (length file ≡ font_file_len) × (fonts ≡ fonts_of file) → IsInput input bytes → ReportsInput until fonts (Some bytes) before after result →
    RunAnswers until file input before after result
input_answers until file fonts input before after bytes result (size, are) read h =
    file_answers until file fonts input before after result (size, are) (input_reports until fonts input before after bytes result read h)

-- what the run of a script over the fonts of a file answers is what one over the file does
script_of_file : (until : Option ℕ) (file : List ℕ) (steps : List Step) (before after : Option (List ℕ)) (result : Result Unit Fault)
    → length file ≡ font_file_len → ReportsSteps until (fonts_of file) steps before after result → RunsScript until file steps before after result
script_of_file until file steps before after (Ok u) size h = (size, h)
script_of_file until file steps before after (Err FontSize) size h = absurd h
script_of_file until file steps before after (Err f) size h = (size, h)

pub steps_answers : (until : Option ℕ) (file : List ℕ) (fonts : FontSet) (steps : List Step) (before after : Option (List ℕ)) (result : Result Unit Fault)
    → (length file ≡ font_file_len) × (fonts ≡ fonts_of file) → ReportsSteps until fonts steps before after result → RunsScript until file steps before after result
steps_answers until file fonts steps before after result (size, are) h =
    script_of_file until file steps before after result size (subst (λ (f : FontSet). ReportsSteps until f steps before after result) are h)

-- no fonts, no run
pub font_runs : (until : Option ℕ) (file : List ℕ) (steps : List Step) (before after : Option (List ℕ)) (f : Fault) → IsFontFault file f →
    RunsScript until file steps before after (Err f)
font_runs until file steps before after FontSize bad = bad
font_runs until file steps before after OutOfMemory size = (size, tt)
font_runs until file steps before after _ bad = absurd bad

pub font_answers : (until : Option ℕ) (file : List ℕ) (input before after : Option (List ℕ)) (f : Fault) → IsFontFault file f →
    RunAnswers until file input before after (Err f)
font_answers until file input before after FontSize bad = bad
font_answers until file input before after OutOfMemory size = (size, tt)
font_answers until file input before after _ bad = absurd bad

-- an unread input
pub unread_answers : (until : Option ℕ) (file : List ℕ) (input before after : Option (List ℕ)) (f : Fault) → length file ≡ font_file_len → FaultStopsReading input f →
    RunAnswers until file input before after (Err f)
unread_answers until file input before after f size (inl is) = subst (λ (x : Fault). RunAnswers until file input before after (Err x)) (sym is) (size, tt)
unread_answers until file input before after f size (inr (inl (is, long))) = subst (λ (x : Fault). RunAnswers until file input before after (Err x)) (sym is)
    (size, long)
unread_answers until file input before after f size (inr (inr is)) = subst (λ (x : Fault). RunAnswers until file input before after (Err x)) (sym is) (size, tt)

-- the law that no bytes that spell a script have a fault but that they are too long
abbrev pub NoFault : Type 0
NoFault = (bytes : List ℕ) (script : ScriptItems) (fault : Fault) → Spells bytes script → IsFault bytes fault → fault ≡ TooLong

-- so an input that spells a script has no fault
no_input_fault : NoFault → (input : Option (List ℕ)) (f : Fault) (bytes : List ℕ) (steps : List Step) → input ≡ Some bytes → SpellsExpanded bytes steps →
    InputHasFault input f → ⊥
no_input_fault law input f bytes steps e (script, spelled, means) (others, read, bad) =
    let same : bytes ≡ others = subst (λ (i : Option (List ℕ)). IfSome i (λ all. all ≡ others)) e read.0 in
    let long = law others script f (subst (λ (l : List ℕ). Spells l script) same spelled) (inr (read.1, bad)) in
    subst (IsSpellingFault others) long bad

-- so a script is run, unless memory runs out or a stream fails
pub runs_good_scripts : NoFault → (until : Option ℕ) (file : List ℕ) (input before after : Option (List ℕ)) (read_failed write_failed : Bool)
    (result : Result Unit Fault)
    → RunAnswers until file input before after result → read_failed ≡ is_read_fault result → write_failed ≡ is_write_fault result →
    RunsGoodScripts file input read_failed write_failed result
runs_good_scripts law until file input before after rf wf (Ok u) h er ew = λ bytes steps size e few spelled r w. tt
runs_good_scripts law until file input before after rf wf (Err FontSize) h er ew = λ bytes steps size e few spelled r w. absurd (h size)
runs_good_scripts law until file input before after rf wf (Err ReadFault) h er ew = λ bytes steps size e few spelled r w. absurd (cc)
runs_good_scripts law until file input before after rf wf (Err TooLong) h er ew = λ bytes steps size e few spelled r w.
    let many : 16777216 < length bytes = subst (λ (i : Option (List ℕ)). IfSome i (λ all. 16777216 < length all)) e h.1 in absurd (omega arith)
runs_good_scripts law until file input before after rf wf (Err WriteFault) h er ew = λ bytes steps size e few spelled r w. absurd (cc)
runs_good_scripts law until file input before after rf wf (Err OutOfMemory) h er ew = λ bytes steps size e few spelled r w. refl
runs_good_scripts law until file input before after rf wf (Err f) h er ew = λ bytes steps size e few spelled r w.
    absurd (no_input_fault law input f bytes steps e spelled h.1)
