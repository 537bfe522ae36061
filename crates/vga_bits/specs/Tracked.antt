-- What contracts see of a reader or a writer that remembers a failure, and how much was read.
use Rattle.std.specs.Prelude.{ℕ, ◌+◌, ◌-◌, ◌^◌, min, ◌==◌, ◌&&◌, nat_lt, length, Bool, true, false}
use Rattle.std.specs.Prelude.{List, ◌++◌, ◌≡◌, Option, Result, Ok, Err}
use Rattle.std.specs.Io.KnownBytes.{Appends}
use Rattle.vga_bits.specs.declared.fault.Fault.{Fault}
use Rattle.vga_bits.specs.declared.fault.Fault.TheVariants.{WriteFault}

-- a reader or writer, whether a call of it has failed, and how many bytes its reads have returned,
-- up to the largest number of 64 bits
pub record TrackedState (T : Type 0) : Type 0 where
  pub inner : T
  pub failed : Bool
  pub read_count : ℕ

-- the reader or writer itself
abbrev pub inner_of : {T : Type 0} → TrackedState T → T
inner_of t = t.inner

-- whether a call of it has failed
abbrev pub has_failed : {T : Type 0} → TrackedState T → Bool
has_failed t = t.failed

-- how many bytes its reads have returned
abbrev pub read_count_of : {T : Type 0} → TrackedState T → ℕ
read_count_of t = t.read_count

-- the count of bytes read after a read with this answer, from the count before it
abbrev pub read_count_after : {E : Type 0} → ℕ → Result ℕ E → ℕ
read_count_after read_count (Ok n) = min (read_count + n) (2 ^ 64 - 1)
read_count_after read_count (Err e) = read_count

-- whether a write of these bytes with this answer failed: it returned an error, or took none of at
-- least one byte
abbrev pub write_fails : {E : Type 0} → Result ℕ E → List ℕ → Bool
write_fails (Ok n) bytes = (n == 0) && nat_lt 0 (length bytes)
write_fails (Err e) bytes = true

-- a prefix of these bytes was appended to those of a writer, if it tells its bytes
abbrev pub AppendsPrefix : Option (List ℕ) → Option (List ℕ) → List ℕ → Type 0
AppendsPrefix old new bytes = (prefix : List ℕ) × (back : List ℕ) × (bytes ≡ prefix ++ back)
    × Appends old new prefix

-- What a call that writes bytes returns: it has written all of them, or the writer has failed and
-- has a prefix of them.
abbrev pub WritesWholeOrPrefix : {U : Type 0} → Option (List ℕ) → Option (List ℕ) → Bool → Result U Fault →
    List ℕ → Type 0
WritesWholeOrPrefix old new failed (Ok u) bytes = Appends old new bytes × (failed ≡ false)
WritesWholeOrPrefix old new failed (Err e) bytes = (e ≡ WriteFault) × (failed ≡ true)
    × AppendsPrefix old new bytes

-- the answer is WriteFault
abbrev pub is_write_fault : {A : Type 0} → Result A Fault → Bool
is_write_fault (Err WriteFault) = true
is_write_fault _ = false
