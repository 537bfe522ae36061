-- What the commands make of a script, or of a text, by what its reader contains, if the reader's
-- contract says so.
use Rattle.std.specs.Prelude.{ℕ, ⊤, ◌≡◌, ◌≢◌, ◌⊎◌, List, length, Option, Result, Ok, Err, Vec}
use Rattle.std.specs.declared.alloc.Global.{Global}
use Rattle.std.specs.Io.KnownBytes.{Appends}
use Rattle.vga_bits.specs.Tracked.{AppendsPrefix}
use Rattle.vga_bits.specs.declared.fault.Fault.{Fault}
use Rattle.vga_bits.specs.declared.fault.Fault.TheVariants.{FontSize, TooLong, BadLine, ReadFault}
use Rattle.vga_bits.specs.declared.fault.Fault.TheVariants.{WriteFault, OutOfMemory}
use Rattle.vga_script.specs.Item.{ScriptItems, expanded}
use Rattle.vga_script.specs.Input.{InputHasFault, InputSpells, InputSpellsText, IsInput, IsTooLong}
use Rattle.vga_script.specs.Printing.{printed_script}
use Rattle.vga_script.specs.Script.{SpellsTooLongScript}
use Rattle.vga_script.specs.Spelling.{encoding}
use Rattle.vga_script.specs.Text.{IsFirstBadLine}
use Rattle.vga_run.specs.Report.{report_of, steps_until}
use Rattle.vga_run.specs.Run.{RunsOutOfMemory}
use Rattle.bios_modes.specs.Fonts.{FontSet, font_file_len, fonts_of}

-- Why a text is not assembled: it or its script has too many bytes; or this is its first bad line;
-- or the reader or an allocation failed.
abbrev pub IsAssemblingFault : Option (List ℕ) → Fault → Type 0
IsAssemblingFault input TooLong = IsTooLong input ⊎ ((text : List ℕ) × IsInput input text
    × SpellsTooLongScript text)
IsAssemblingFault input (BadLine n) = (text : List ℕ) × IsInput input text × IsFirstBadLine text n
IsAssemblingFault input ReadFault = ⊤
IsAssemblingFault input OutOfMemory = ⊤
IsAssemblingFault input _ = ⊥

-- What reading a text answers: the script that it spells, or why there is none.
abbrev pub FindsScriptOfText : Option (List ℕ) → Result (ScriptItems) Fault → Type 0
FindsScriptOfText input (Ok script) = InputSpellsText input script
FindsScriptOfText input (Err fault) = IsAssemblingFault input fault

-- What assembling answers: the bytes of the script that the text spells, or why there is none.
abbrev pub AssembleAnswers : Option (List ℕ) → Result (Vec ℕ Global) Fault → Type 0
AssembleAnswers input (Ok bytes) = (script : ScriptItems) × InputSpellsText input script
    × (bytes.items ≡ encoding script)
AssembleAnswers input (Err fault) = IsAssemblingFault input fault

-- What disassembling answers, over a writer whose contents are `before` and `after`: it has written
-- the printed text of the script, or a prefix of it if the writer failed; or the first fault of the
-- bytes.
abbrev pub DisassembleAnswers : Option (List ℕ) → Option (List ℕ) → Option (List ℕ) → Result Unit
    Fault → Type 0
DisassembleAnswers input before after (Ok done) = (script : ScriptItems) × InputSpells input script
    × Appends before after (printed_script script)
DisassembleAnswers input before after (Err WriteFault) =
    (script : ScriptItems) × InputSpells input script
    × AppendsPrefix before after (printed_script script)
DisassembleAnswers input before after (Err TooLong) = IsTooLong input
DisassembleAnswers input before after (Err ReadFault) = ⊤
DisassembleAnswers input before after (Err OutOfMemory) = ⊤
DisassembleAnswers input before after (Err fault) = InputHasFault input fault

-- What running a text answers, with a limit or without, with a font file and over a writer whose
-- contents are `before` and `after`. It has written the report of the script that the text spells,
-- or a prefix of it if the writer failed; or it says why the text is not assembled; or that the
-- font file has the wrong size, which is checked after the text.
abbrev pub RunsText : Option ℕ → List ℕ → Option (List ℕ) → Option (List ℕ) → Option (List ℕ) →
    Result Unit Fault → Type 0
RunsText until file input before after (Ok done) = (length file ≡ font_file_len)
    × ((script : ScriptItems) × InputSpellsText input script
    × Appends before after (report_of (fonts_of file) (steps_until until (expanded script.items))))
RunsText until file input before after (Err WriteFault) = (length file ≡ font_file_len)
    × ((script : ScriptItems) × InputSpellsText input script
    × AppendsPrefix before after (report_of (fonts_of file)
    (steps_until until (expanded script.items))))
RunsText until file input before after (Err FontSize) = (length file ≢ font_file_len)
    × ((script : ScriptItems) × InputSpellsText input script)
RunsText until file input before after (Err fault) = IsAssemblingFault input fault

-- an allocation failed in the run of the script that a text spells
abbrev pub TextRunsOutOfMemory : Option ℕ → FontSet → Option (List ℕ) → Option (List ℕ) → Option (List ℕ) →
    Type 0
TextRunsOutOfMemory until fonts input before after = (script : ScriptItems) × InputSpellsText input script
    × RunsOutOfMemory until fonts (expanded script.items) before after
