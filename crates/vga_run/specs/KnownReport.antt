-- What runs answer whose report is known in other terms: those of the plain screen.
use Rattle.std.specs.Prelude.{ℕ, ◌≡◌, List, Option, None, Some, Result, Ok, Err}
use Rattle.std.specs.Io.KnownBytes.{Appends}
use Rattle.vga_bits.specs.Tracked.{AppendsPrefix}
use Rattle.vga_bits.specs.declared.fault.Fault.{Fault}
use Rattle.vga_bits.specs.declared.fault.Fault.TheVariants.{WriteFault}
use Rattle.bios_modes.specs.Fonts.{FontSet, fonts_of}
use Rattle.vga_script.specs.declared.step.Step.{Step}
use Rattle.vga_script.specs.Spelled.{SpellsExpanded}

-- What the run of steps with this report answers, over a writer whose contents are `before` and
-- `after`: it has written the report, or a prefix of it if the writer failed.
abbrev pub WritesReportOrPrefix : List ℕ → Option (List ℕ) → Option (List ℕ) → Result Unit Fault → Type 0
WritesReportOrPrefix report before after (Ok u) = Appends before after report
WritesReportOrPrefix report before after (Err WriteFault) = AppendsPrefix before after report
WritesReportOrPrefix report before after (Err _) = Unit {0}

-- What a run with a font file and without a limit answers: that report, if its input spells steps
-- of a kind whose report is known for these fonts.
abbrev pub RunWritesKnownReport : (FontSet → List Step → Type 0) → (FontSet → List Step → List ℕ) → Option ℕ →
    List ℕ → Option (List ℕ) → Option (List ℕ) → Option (List ℕ) → Result Unit Fault → Type 0
RunWritesKnownReport Are report until file input before after result =
    (bytes : List ℕ) (steps : List Step) → until ≡ None → input ≡ Some bytes →
    SpellsExpanded bytes steps → Are (fonts_of file) steps →
    WritesReportOrPrefix (report (fonts_of file) steps) before after result
