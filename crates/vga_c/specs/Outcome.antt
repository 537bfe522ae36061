-- What a call over a script gives the caller: bytes, or the status of a fault and its place.
use Rattle.std.specs.Prelude.{◌≡◌, ℕ, List, Result, Ok, Err}
use Rattle.vga_bits.specs.declared.fault.Fault.{Fault}
use Rattle.vga_bits.specs.declared.fault.Fault.TheVariants as fault
use Rattle.vga_c.specs.Buffers.{IsCopied}
use Rattle.vga_c.specs.Status.{font_size_status, out_of_memory_status, script_too_long_status}

-- the status of a fault: that of the same reason in other calls, or 100 plus the fault's number
abbrev pub fault_status : Fault → ℕ
fault_status fault.FontSize = font_size_status
fault_status fault.BadMagic = 102
fault_status fault.BadVersion = 103
fault_status (fault.BadStep place) = 104
fault_status (fault.Truncated place) = 105
fault_status fault.TooLong = script_too_long_status
fault_status (fault.BadLine line) = 107
fault_status fault.ReadFault = 108
fault_status fault.WriteFault = out_of_memory_status
fault_status fault.OutOfMemory = out_of_memory_status
fault_status (fault.TooMany place) = 111

-- what a fault leaves in the caller's variable: its offset in the bytes, its line in the text, or
-- what was there
abbrev pub fault_place : Fault → ℕ → ℕ
fault_place (fault.BadStep place) before = place
fault_place (fault.Truncated place) before = place
fault_place (fault.TooMany place) before = place
fault_place (fault.BadLine line) before = line
fault_place other before = before

-- The caller's output: a buffer for bytes, how many there are, and the place of a fault.
pub record ScriptOutput : Type 0 where
  pub bytes : List ℕ
  pub len : ℕ
  pub place : ℕ

-- an output with these contents
abbrev pub script_output : List ℕ → ℕ → ℕ → ScriptOutput
script_output bytes len place = record { bytes = bytes; len = len; place = place }

-- the output has the bytes; or the status is that of a fault, and the output has its place
abbrev pub HasScriptOutcome : Result (List ℕ) Fault → ScriptOutput → ScriptOutput → ℕ → Type 0
HasScriptOutcome (Ok bytes) before after status = (after.place ≡ before.place)
    × IsCopied bytes before.bytes after.bytes after.len status
HasScriptOutcome (Err why) before after status = (status ≡ fault_status why)
    × (after ≡ script_output before.bytes before.len (fault_place why before.place))

-- some outcome has this property, and the output has that outcome: the bytes, or the status and the
-- place of a fault
abbrev pub HasOutcomeWithProperty : (Result (List ℕ) Fault → Type 0) → ScriptOutput → ScriptOutput → ℕ
    → Type 0
HasOutcomeWithProperty IsThis before after status = (outcome : Result (List ℕ) Fault)
    × IsThis outcome × HasScriptOutcome outcome before after status
