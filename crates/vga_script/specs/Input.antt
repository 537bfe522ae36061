-- What a reader contains, if its contract says so, as that of a reader over memory does: all its
-- bytes, if they are no more than a script may have, and what they spell.
use Rattle.std.specs.Prelude.{ℕ, ◌≡◌, ◌<◌, ◌≤◌, ◌+◌, ◌⊎◌, List, length, Option, IfSome, Result}
use Rattle.vga_bits.specs.LimitedReading.{TakesAtMost, is_read_fault}
use Rattle.vga_bits.specs.Tracked.{inner_of, has_failed, read_count_of}
use Rattle.vga_bits.specs.Tracked.{TrackedState}
use Rattle.vga_bits.specs.declared.fault.Fault.{Fault}
use Rattle.vga_bits.specs.declared.fault.Fault.TheVariants.{TooLong, ReadFault, OutOfMemory}
use Rattle.vga_script.specs.declared.step.Step.{Step}
use Rattle.vga_script.specs.Item.{ScriptItems}
use Rattle.vga_script.specs.Spelled.{SpellsExpanded}
use Rattle.vga_script.specs.Decoding.{IsSpellingFault}
use Rattle.vga_script.specs.Script.{IsScript}
use Rattle.vga_script.specs.Spelling.{script_limit, Spells}
use Rattle.vga_script.specs.Text.{SpellsText}

-- these bytes are all that the reader had, and they are no more than a script may have
abbrev pub IsInput : Option (List ℕ) → List ℕ → Type 0
IsInput input bytes = IfSome input (λ all. all ≡ bytes) × (length bytes ≤ script_limit)

-- the reader had more bytes than a script may have
abbrev pub IsTooLong : Option (List ℕ) → Type 0
IsTooLong input = IfSome input (λ all. script_limit < length all)

-- why the bytes of a reader were not all read: it failed, it had too many, or an allocation failed
abbrev pub FaultStopsReading : Option (List ℕ) → Fault → Type 0
FaultStopsReading input fault = (fault ≡ ReadFault) ⊎ (((fault ≡ TooLong) × IsTooLong input)
    ⊎ (fault ≡ OutOfMemory))

-- the input spells this script
abbrev pub InputSpells : Option (List ℕ) → ScriptItems → Type 0
InputSpells input script = (bytes : List ℕ) × IsInput input bytes × Spells bytes script

-- the input spells a script which means these steps
abbrev pub InputMeans : Option (List ℕ) → List Step → Type 0
InputMeans input steps = (bytes : List ℕ) × IsInput input bytes × SpellsExpanded bytes steps

-- the input spells no script, and this is its first fault
abbrev pub InputHasFault : Option (List ℕ) → Fault → Type 0
InputHasFault input fault = (bytes : List ℕ) × IsInput input bytes × IsSpellingFault bytes fault

-- the input is a text that spells this script
abbrev pub InputSpellsText : Option (List ℕ) → ScriptItems → Type 0
InputSpellsText input script = (text : List ℕ) × IsInput input text × SpellsText text script
    × IsScript script

-- What a call does to the reader of a script, whose bytes `remaining` gives. The reader has failed
-- exactly if the call says so. At most one byte more is taken than a script may have, by the bytes
-- themselves and by the count of bytes that were read.
abbrev pub ReadsScript : {R A : Type 0} → (R → Option (List ℕ)) → TrackedState R → TrackedState R →
    Result A Fault → Type 0
ReadsScript remaining old new result = (has_failed new ≡ is_read_fault result)
    × TakesAtMost (script_limit + 1) (remaining (inner_of old)) (remaining (inner_of new))
    × (read_count_of new ≤ read_count_of old + (script_limit + 1))
