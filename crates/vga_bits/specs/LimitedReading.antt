-- Reading up to a limit, where the reader tells its bytes, as one over memory does.
use Rattle.std.specs.Prelude.{ℕ, ◌≡◌, ◌≤◌, Bool, true, false, List, length, take, Option, IfSome}
use Rattle.std.specs.Prelude.{Result, Ok, Err, Vec}
use Rattle.std.specs.declared.alloc.Global.{Global}
use Rattle.std.specs.Io.KnownBytes.{Consumes}
use Rattle.vga_bits.specs.declared.fault.Fault.{Fault}
use Rattle.vga_bits.specs.declared.fault.Fault.TheVariants.{ReadFault, OutOfMemory}

-- what was read is a prefix of what the reader had, at most n bytes
abbrev pub TakesAtMost : ℕ → Option (List ℕ) → Option (List ℕ) → Type 0
TakesAtMost n old new = (bytes : List ℕ) × Consumes old new bytes × (length bytes ≤ n)

-- the bytes are the first `most` bytes of the reader, if it tells its bytes
abbrev pub IsPrefixOfReader : ℕ → Option (List ℕ) → List ℕ → Type 0
IsPrefixOfReader most input bytes = IfSome input (λ all. bytes ≡ take most all)

-- What reading the first `most` bytes returns, for a reader that has these bytes before and after.
-- It returns those bytes, and no others were read. Or it returns `ReadFault`, and the reader has
-- failed. Or it returns `OutOfMemory`, and the reader has not failed.
abbrev pub ReadsPrefix : ℕ → Option (List ℕ) → Option (List ℕ) → Bool →
    Result (Vec ℕ Global) Fault →
    Type 0
ReadsPrefix most old new failed (Ok bytes) =
    (length bytes.items ≤ most) × IsPrefixOfReader most old bytes.items × Consumes old new
    bytes.items
    × (failed ≡ false)
ReadsPrefix most old new failed (Err ReadFault) = (failed ≡ true) × TakesAtMost most old new
ReadsPrefix most old new failed (Err OutOfMemory) = (failed ≡ false) × TakesAtMost most old new
ReadsPrefix most old new failed (Err _) = ⊥

-- the answer is ReadFault
abbrev pub is_read_fault : {A : Type 0} → Result A Fault → Bool
is_read_fault (Err ReadFault) = true
is_read_fault _ = false
