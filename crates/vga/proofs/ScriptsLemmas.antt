-- From what is read of a script, or of a text that spells one, to what a command answers.
use Rattle.std.proofs.Common.{◌≡◌, ◌⊎◌, inl, inr, ℕ, Bool, false, List, Option, IfOk, IsOkUnless, Result, Ok, Err, Vec, arith, sym, subst}
use Rattle.std.specs.declared.alloc.Global.{Global}
use Rattle.vga_bits.specs.Tracked.{WritesWholeOrPrefix, is_write_fault}
use Rattle.vga_bits.specs.declared.fault.Fault.{Fault}
use Rattle.vga_bits.specs.declared.fault.Fault.TheVariants.{FontSize, BadMagic, BadVersion, BadStep, Truncated, TooLong, BadLine, WriteFault, OutOfMemory}
use Rattle.vga_bits.specs.declared.fault.Fault.TheVariants.{TooMany}
use Rattle.vga_script.specs.Item.{ScriptItems, expanded}
use Rattle.vga_script.specs.Decoding.{IsFault, IsSpellingFault}
use Rattle.vga_script.specs.Input.{IsInput, FaultStopsReading}
use Rattle.vga_script.specs.Printing.{printed_script}
use Rattle.vga_script.specs.Script.{IsScript, IsTextFault}
use Rattle.vga_script.specs.Spelling.{Spells, encoding}
use Rattle.vga_script.specs.Text.{SpellsText}
use Rattle.bios_modes.specs.Fonts.{FontSet}
use Rattle.vga_run.specs.Run.{RunsScript, RunsOutOfMemory}
use Rattle.vga.specs.Scripts.{AssembleAnswers, FindsScriptOfText, DisassembleAnswers, RunsText, TextRunsOutOfMemory}

-- ---- a text

-- a text that is not read
pub unread_text : (input : Option (List ℕ)) (f : Fault) → FaultStopsReading input f → FindsScriptOfText input (Err f)
unread_text input f (inl is) = subst (λ (x : Fault). FindsScriptOfText input (Err x)) (sym is) tt
unread_text input f (inr (inl (is, long))) = subst (λ (x : Fault). FindsScriptOfText input (Err x)) (sym is) (inl long)
unread_text input f (inr (inr is)) = subst (λ (x : Fault). FindsScriptOfText input (Err x)) (sym is) tt

-- a text that is not assembled
pub bad_text : (input : Option (List ℕ)) (text : List ℕ) (f : Fault) → IsInput input text → (f ≡ OutOfMemory) ⊎ IsTextFault text f → FindsScriptOfText input (Err f)
bad_text input text f read (inl is) = subst (λ (x : Fault). FindsScriptOfText input (Err x)) (sym is) tt
bad_text input text TooLong read (inr (inl long)) = let short = read.1 in absurd (omega arith)
bad_text input text TooLong read (inr (inr (short, many))) = inr (text, read, many)
bad_text input text (BadLine n) read (inr (short, bad)) = (text, read, bad)
bad_text input text _ read (inr bad) = absurd bad

-- a text that is assembled
pub good_text : (input : Option (List ℕ)) (text : List ℕ) (script : ScriptItems) → IsInput input text → SpellsText text script → IsScript script →
    FindsScriptOfText input (Ok script)
good_text input text script read spelled good = (text, read, spelled, good)

-- and its bytes
pub assembled : (input : Option (List ℕ)) (script : ScriptItems) (result : Result (Vec ℕ Global) Fault) → FindsScriptOfText input (Ok script)
    → IfOk result (λ bytes. bytes.items ≡ encoding script) → IsOkUnless result OutOfMemory → AssembleAnswers input result
assembled input script (Ok bytes) found are only = (script, found, are)
assembled input script (Err f) found are only = subst (λ (x : Fault). AssembleAnswers input (Err x)) (sym only) tt

-- ---- a text that is run

-- a text that is not assembled
pub not_run : (until : Option ℕ) (file : List ℕ) (input before after : Option (List ℕ)) (f : Fault) → FindsScriptOfText input (Err f) →
    RunsText until file input before after (Err f)
not_run until file input before after FontSize h = absurd h
not_run until file input before after WriteFault h = absurd h
not_run until file input before after f h = h

-- the writer has no part in it
pub no_write_fault : (input : Option (List ℕ)) (failed : Bool) (f : Fault) → FindsScriptOfText input (Err f) → failed ≡ false →
    failed ≡ is_write_fault {A = Unit} (Err f)
no_write_fault input failed WriteFault h sound = absurd h
no_write_fault input failed _ h sound = sound

-- a text whose script is run
pub script_is_run : (until : Option ℕ) (file : List ℕ) (input before after : Option (List ℕ)) (script : ScriptItems) (result : Result Unit Fault) →
    FindsScriptOfText input (Ok script)
    → RunsScript until file (expanded script.items) before after result → RunsText until file input before after result
script_is_run until file input before after script (Ok u) found (size, written) = (size, (script, found, written))
script_is_run until file input before after script (Err WriteFault) found (size, written) = (size, (script, found, written))
script_is_run until file input before after script (Err FontSize) found h = (h, (script, found))
script_is_run until file input before after script (Err OutOfMemory) found h = tt
script_is_run until file input before after script (Err _) found h = absurd h.1

-- and where its run stops
pub script_stops : (until : Option ℕ) (fonts : FontSet) (input before after : Option (List ℕ)) (script : ScriptItems) → FindsScriptOfText input (Ok script)
    → RunsOutOfMemory until fonts (expanded script.items) before after → TextRunsOutOfMemory until fonts input before after
script_stops until fonts input before after script found stops = (script, found, stops)

-- ---- a script in bytes

-- bytes that are not read
pub unread_script : (input before after : Option (List ℕ)) (f : Fault) → FaultStopsReading input f → DisassembleAnswers input before after (Err f)
unread_script input before after f (inl is) = subst (λ (x : Fault). DisassembleAnswers input before after (Err x)) (sym is) tt
unread_script input before after f (inr (inl (is, long))) = subst (λ (x : Fault). DisassembleAnswers input before after (Err x)) (sym is) long
unread_script input before after f (inr (inr is)) = subst (λ (x : Fault). DisassembleAnswers input before after (Err x)) (sym is) tt

-- bytes that spell no script
unspelled : (input before after : Option (List ℕ)) (bytes : List ℕ) (f : Fault) → IsInput input bytes → IsSpellingFault bytes f →
    DisassembleAnswers input before after (Err f)
unspelled input before after bytes BadMagic read bad = (bytes, read, bad)
unspelled input before after bytes BadVersion read bad = (bytes, read, bad)
unspelled input before after bytes (BadStep at) read bad = (bytes, read, bad)
unspelled input before after bytes (Truncated at) read bad = (bytes, read, bad)
unspelled input before after bytes (TooMany at) read bad = (bytes, read, bad)
unspelled input before after bytes _ read bad = absurd bad

pub bad_script : (input before after : Option (List ℕ)) (bytes : List ℕ) (f : Fault) → IsInput input bytes → (f ≡ OutOfMemory) ⊎ IsFault bytes f →
    DisassembleAnswers input before after (Err f)
bad_script input before after bytes f read (inl is) = subst (λ (x : Fault). DisassembleAnswers input before after (Err x)) (sym is) tt
bad_script input before after bytes f read (inr (inl (is, long))) = let short = read.1 in absurd (omega arith)
bad_script input before after bytes f read (inr (inr (short, bad))) = unspelled input before after bytes f read bad

-- a script that finds no memory for its text
pub unprinted_script : (input before after : Option (List ℕ)) (f : Fault) → f ≡ OutOfMemory → DisassembleAnswers input before after (Err f)
unprinted_script input before after f is = subst (λ (x : Fault). DisassembleAnswers input before after (Err x)) (sym is) tt

-- a script that is printed
pub good_script : (input before after : Option (List ℕ)) (bytes : List ℕ) (script : ScriptItems) (failed : Bool) (result : Result Unit Fault) → IsInput input bytes
    → Spells bytes script → WritesWholeOrPrefix before after failed result (printed_script script) → DisassembleAnswers input before after result
good_script input before after bytes script failed (Ok u) read spelled w = (script, (bytes, read, spelled), w.0)
good_script input before after bytes script failed (Err f) read spelled w =
    subst (λ (x : Fault). DisassembleAnswers input before after (Err x)) (sym w.0) (script, (bytes, read, spelled), w.2)
