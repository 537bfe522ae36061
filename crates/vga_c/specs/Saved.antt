-- The state of a card as bytes, from which a card can go on later.
use Rattle.std.specs.Prelude.{◌≡◌, ◌⊎◌, ℕ, true, List, length}
use Rattle.vga_bits.specs.declared.state_fault.StateFault.{StateFault}
use Rattle.vga_bits.specs.declared.state_fault.StateFault.TheVariants.{BadMagic, BadVersion}
use Rattle.vga_bits.specs.declared.state_fault.StateFault.TheVariants.{BadLength, BadPart}
use Rattle.vga_run.specs.declared.machine.Machine.{Machine}
use Rattle.vga_run.specs.Saved.{IsSavedMachine, IsStateFault, machine_from, saved_machine}
use Rattle.vga_c.specs.Handle.{HandleState, machine_after_owed_dots}
use Rattle.vga_c.specs.Buffers.{IsCopied}

-- how many bytes the state of a machine has
abbrev pub saved_size : Machine → ℕ
saved_size m = length (saved_machine m)

-- the caller's buffer begins with the state of an open card, if it has room
abbrev pub Saves : HandleState → List ℕ → List ℕ → ℕ → ℕ → Type 0
Saves card old new len status = card.is_open ≡ true →
    IsCopied (saved_machine (machine_after_owed_dots card)) old new len status

-- the status that says why bytes are not a saved state
abbrev pub state_status : StateFault → ℕ
state_status BadMagic = 30
state_status BadVersion = 31
state_status BadLength = 32
state_status BadPart = 33

-- a machine has the state of some bytes, and its own fonts; or the bytes are no state, and it stays
-- as it is
abbrev pub IsRestored : Machine → Machine → List ℕ → ℕ → Type 0
IsRestored old new bytes status =
    (IsSavedMachine bytes × (new ≡ machine_from old.fonts bytes) × (status ≡ 0))
    ⊎ ((why : StateFault) × IsStateFault why bytes × (new ≡ old) × (status ≡ state_status why))

-- an open card has the state of some bytes, keeps its fonts and stays open; or the bytes are no
-- state, and it stays as it is
abbrev pub Restores : HandleState → HandleState → List ℕ → ℕ → Type 0
Restores old new bytes status = old.is_open ≡ true → (new.is_open ≡ true)
    × IsRestored (machine_after_owed_dots old) (machine_after_owed_dots new) bytes status
