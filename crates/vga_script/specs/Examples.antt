-- Scripts for the worked examples.
use Rattle.std.specs.Prelude.{ℕ, List, [], ◌∷◌, ◌++◌, codes, replicate}
use Rattle.vga_script.specs.declared.step.Step.{Step}
use Rattle.vga_script.specs.declared.step.Step.TheVariants.{Out, Int, Frame}
use Rattle.vga_script.specs.Item.{Once, Repeated, ScriptItems, script_of_items}
use Rattle.vga_script.specs.declared.version.Version.TheVariants.{One, Two}
use Rattle.vga_script.specs.Spelling.{header}

-- a write of the sequencer's index, and a mode set
abbrev pub two_steps : ScriptItems
two_steps = script_of_items One (Once (Out 0x3C4 2) ∷ Once (Int 0x13 0 0 0 []) ∷ [])

-- the bytes of a script of n frames in a repeat with the largest count
abbrev pub two_steps_bytes : List ℕ
two_steps_bytes = codes "VGAS" ++ 1 ∷ 1 ∷ 0xC4 ∷ 0x03 ∷ 0x02 ∷ 9 ∷ 0x13 ∷ 0 ∷ 0 ∷ 0 ∷ 0 ∷ 0 ∷ 0 ∷ 0
    ∷ 0 ∷ 0 ∷ []

-- the same write three times
abbrev pub three_times : ScriptItems
three_times = script_of_items Two (Repeated 3 (Out 0x3C4 2 ∷ []) ∷ [])

-- the bytes of the script that repeats the write three times
abbrev pub three_times_bytes : List ℕ
three_times_bytes = codes "VGAS" ++ 2 ∷ 0x0D ∷ 3 ∷ 0 ∷ 1 ∷ 0xC4 ∷ 0x03 ∷ 0x02 ∷ 0x0E ∷ []

-- a repeat without steps, with the largest count
abbrev pub nothing_repeated : ScriptItems
nothing_repeated = script_of_items Two (Repeated 0xFFFF [] ∷ [])

-- n frames; opaque, as are their bytes, since every goal would write them out
unfoldable pub frames : ℕ → List Step
frames n = replicate n Frame

-- their bytes
unfoldable pub frame_bytes : ℕ → List ℕ
frame_bytes n = replicate n 0x0B

-- n frames in a repeat with the largest count
abbrev pub frames_repeated : ℕ → ScriptItems
frames_repeated n = script_of_items Two (Repeated 0xFFFF (frames n) ∷ [])

-- the bytes of those two steps' script
abbrev pub frames_repeated_bytes : ℕ → List ℕ
frames_repeated_bytes n = header Two ++ 0x0D ∷ 0xFF ∷ 0xFF ∷ (frame_bytes n ++ 0x0E ∷ [])
