-- Assembling and printing a script.
use Rattle.std.specs.Prelude.{◌≡◌, ◌⊎◌, ◌≤◌, ℕ, List, Result, Ok, Err, length}
use Rattle.vga_bits.specs.declared.fault.Fault.{Fault}
use Rattle.vga_bits.specs.declared.fault.Fault.TheVariants.{OutOfMemory}
use Rattle.vga_script.specs.Decoding.{IsFault}
use Rattle.vga_script.specs.Item.{ScriptItems}
use Rattle.vga_script.specs.Printing.{printed_script}
use Rattle.vga_script.specs.Script.{IsTextFault}
use Rattle.vga_script.specs.Spelling.{script_limit, encoding, Spells}
use Rattle.vga_script.specs.Text.{SpellsText}
use Rattle.vga_c.specs.Outcome.{ScriptOutput, HasOutcomeWithProperty}

-- the text spells a script, and these are its bytes
abbrev pub IsAssembled : List ℕ → List ℕ → Type 0
IsAssembled text bytes = (length text ≤ script_limit)
    × ((script : ScriptItems) × SpellsText text script × (bytes ≡ encoding script))

-- the first fault of a text; or an allocation failed
abbrev pub IsFaultOfText : List ℕ → Fault → Type 0
IsFaultOfText text why = (why ≡ OutOfMemory) ⊎ IsTextFault text why

-- the bytes of a text's script, or the first fault
abbrev pub IsAssembledScriptOrFault : List ℕ → Result (List ℕ) Fault → Type 0
IsAssembledScriptOrFault text (Ok bytes) = IsAssembled text bytes
IsAssembledScriptOrFault text (Err why) = IsFaultOfText text why

-- the output has the printed text of the script that bytes spell, or the status and the place of
-- the first fault
abbrev pub GivesAssembledBytes : List ℕ → ScriptOutput → ScriptOutput → ℕ → Type 0
GivesAssembledBytes text = HasOutcomeWithProperty (IsAssembledScriptOrFault text)

-- the bytes spell a script, and this is its printed text
abbrev pub IsPrintedTextOfScript : List ℕ → List ℕ → Type 0
IsPrintedTextOfScript bytes text = (length bytes ≤ script_limit)
    × ((script : ScriptItems) × Spells bytes script × (text ≡ printed_script script))

-- the first fault of some bytes; or an allocation failed
abbrev pub IsFaultOfBytes : List ℕ → Fault → Type 0
IsFaultOfBytes bytes why = (why ≡ OutOfMemory) ⊎ IsFault bytes why

-- the printed text of the script that bytes spell, or the first fault
abbrev pub IsPrintedTextOfScriptOrFault : List ℕ → Result (List ℕ) Fault → Type 0
IsPrintedTextOfScriptOrFault bytes (Ok text) = IsPrintedTextOfScript bytes text
IsPrintedTextOfScriptOrFault bytes (Err why) = IsFaultOfBytes bytes why

-- the output has the bytes of a text's script, or the status and the place of the first fault
abbrev pub GivesPrintedText : List ℕ → ScriptOutput → ScriptOutput → ℕ → Type 0
GivesPrintedText bytes = HasOutcomeWithProperty (IsPrintedTextOfScriptOrFault bytes)
