-- What a whole run gives the caller.
use Rattle.std.specs.Prelude.{◌≡◌, ◌≢◌, ℕ, List, Some, Result, Ok, Err, length}
use Rattle.vga_bits.specs.declared.fault.Fault.{Fault}
use Rattle.vga_bits.specs.declared.fault.Fault.TheVariants as fault
use Rattle.bios_modes.specs.Fonts.{font_file_len, fonts_of}
use Rattle.vga_script.specs.declared.step.Step.{Step}
use Rattle.vga_script.specs.Input.{InputHasFault, InputMeans, IsTooLong}
use Rattle.vga_run.specs.Report.{report_of}
use Rattle.vga_c.specs.Outcome.{ScriptOutput, HasOutcomeWithProperty}

-- the first fault of a font file and the bytes of a script; or an allocation failed, with a font
-- file of the right size
abbrev pub IsFirstFault : List ℕ → List ℕ → Fault → Type 0
IsFirstFault file script fault.FontSize = length file ≢ font_file_len
IsFirstFault file script fault.WriteFault = length file ≡ font_file_len
IsFirstFault file script fault.OutOfMemory = length file ≡ font_file_len
IsFirstFault file script fault.ReadFault = ⊥
IsFirstFault file script fault.TooLong = (length file ≡ font_file_len) × IsTooLong (Some script)
IsFirstFault file script other = (length file ≡ font_file_len) × InputHasFault (Some script) other

-- the bytes spell a script, and this is its report
abbrev pub IsReport : List ℕ → List ℕ → List ℕ → Type 0
IsReport file script report = (length file ≡ font_file_len) × ((steps : List Step)
    × InputMeans (Some script) steps × (report ≡ report_of (fonts_of file) steps))

-- the report, or the first fault
abbrev pub IsReportOrFault : List ℕ → List ℕ → Result (List ℕ) Fault → Type 0
IsReportOrFault file script (Ok report) = IsReport file script report
IsReportOrFault file script (Err why) = IsFirstFault file script why

-- the output has the report of a script, or the status and the place of the first fault
abbrev pub GivesReport : List ℕ → List ℕ → ScriptOutput → ScriptOutput → ℕ → Type 0
GivesReport file script = HasOutcomeWithProperty (IsReportOrFault file script)
