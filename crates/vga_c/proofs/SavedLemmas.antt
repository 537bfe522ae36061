-- The status of bytes that are restored.
use Rattle.std.proofs.Common.{◌≡◌, inl, inr, ℕ, List}
use Rattle.vga_bits.specs.declared.state_fault.StateFault.{StateFault}
use Rattle.vga_run.specs.declared.machine.Machine.{Machine}
use Rattle.vga_run.specs.Saved.{IsSavedMachine, IsStateFault, machine_from}
use Rattle.vga_c.specs.Saved.{IsRestored, state_status}

pub restored : (old new : Machine) (bytes : List ℕ) (status : ℕ) → IsSavedMachine bytes → new ≡ machine_from old.fonts bytes → status ≡ 0 →
    IsRestored old new bytes status
restored old new bytes status is same done = inl (is, same, done)

pub left : (old new : Machine) (bytes : List ℕ) (status : ℕ) (why : StateFault) → IsStateFault why bytes → new ≡ old → status ≡ state_status why →
    IsRestored old new bytes status
left old new bytes status why is same number = inr (why, is, same, number)
