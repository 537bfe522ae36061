-- From a prefix that was not read to why not all bytes of a script were read.
use Rattle.std.proofs.Common.{ℕ, Bool, List, Option, Err, refl, inl, inr}
use Rattle.vga_bits.specs.LimitedReading.{ReadsPrefix}
use Rattle.vga_bits.specs.declared.fault.Fault.{Fault}
use Rattle.vga_bits.specs.declared.fault.Fault.TheVariants.{ReadFault, OutOfMemory}
use Rattle.vga_script.specs.Input.{FaultStopsReading}

-- the reader failed, or memory ran out
pub unread_input : (most : ℕ) (old new : Option (List ℕ)) (failed : Bool) (fault : Fault) → ReadsPrefix most old new failed (Err fault) →
    FaultStopsReading old fault
unread_input most old new failed ReadFault h = inl refl
unread_input most old new failed OutOfMemory h = inr (inr refl)
unread_input most old new failed _ h = absurd h
