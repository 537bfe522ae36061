-- States of a fixed length: the state, zeros, and a checksum of both.
use Rattle.std.specs.Prelude.{◌≡◌, ◌+◌, ◌-◌, ◌<◌, ◌≤◌, ◌++◌, ℕ, true, List, length}
use Rattle.std.specs.Prelude.{take, min, nat_lt, if◌then◌else◌}
use Rattle.vga_bits.specs.Bytes.{zeros}
use Rattle.vga_run.specs.declared.machine.Machine.{Machine}
use Rattle.vga_run.specs.Saved.{number_of_four_bytes, four_bytes_of_number, saved_machine}
use Rattle.vga_c.specs.Checksum.{adler_32}
use Rattle.vga_c.specs.Handle.{HandleState, machine_after_owed_dots}
use Rattle.vga_c.specs.Saved.{IsRestored}
use Rattle.vga_c.specs.Status.{no_room_status}

-- a state and zeros, which with the checksum make `len` bytes
abbrev pub state_padded_for_checksum : List ℕ → ℕ → List ℕ
state_padded_for_checksum state len = state ++ zeros (len - (4 + length state))

-- a state of a fixed length: the state, zeros, and the checksum of both
abbrev pub state_with_padding_and_checksum : List ℕ → ℕ → List ℕ
state_with_padding_and_checksum state len =
    state_padded_for_checksum state len ++ four_bytes_of_number (adler_32 (state_padded_for_checksum state len))

-- the caller's whole buffer has such a state; or it is too short, and stays as it is
abbrev pub IsSavedFixedLengthState : List ℕ → List ℕ → List ℕ → ℕ → Type 0
IsSavedFixedLengthState state old new status =
    (4 + length state ≤ length old → (new ≡ state_with_padding_and_checksum state (length old)) × (status ≡ 0))
    × (length old < 4 + length state → (new ≡ old) × (status ≡ no_room_status))

-- the caller's whole buffer has the state of an open card, with zeros and a checksum; or it is too
-- short, and stays as it is
abbrev pub SavesFixedLengthState : HandleState → List ℕ → List ℕ → ℕ → Type 0
SavesFixedLengthState card old new status = card.is_open ≡ true →
    IsSavedFixedLengthState (saved_machine (machine_after_owed_dots card)) old new status

-- the status that says that the checksum of a state of a fixed length is wrong
abbrev pub wrong_checksum_status : ℕ
wrong_checksum_status = 34

-- the bytes before the checksum
abbrev pub bytes_before_checksum : List ℕ → List ℕ
bytes_before_checksum bytes = take (length bytes - 4) bytes

-- the state at the beginning of the bytes before the checksum, as long as its header says; the
-- zeros after it are left out
abbrev pub state_without_padding : List ℕ → List ℕ
state_without_padding body =
    if nat_lt (length body) 9 then body else take (min (number_of_four_bytes body 5) (length body))
    body

-- bytes end with the checksum of the bytes before
abbrev pub HasRightChecksum : List ℕ → Type 0
HasRightChecksum bytes = (4 ≤ length bytes) × (number_of_four_bytes bytes (length bytes - 4)
    ≡ adler_32 (bytes_before_checksum bytes))

-- if the checksum is right, the machine is restored from the state, or the state is refused;
-- otherwise the machine stays as it is
abbrev pub IsRestoredFromFixedLengthState : Machine → Machine → List ℕ → ℕ → Type 0
IsRestoredFromFixedLengthState old new bytes status =
    (HasRightChecksum bytes → IsRestored old new (state_without_padding (bytes_before_checksum bytes)) status)
    × (¬ HasRightChecksum bytes → (new ≡ old) × (status ≡ wrong_checksum_status))

-- an open card stays open, and is restored from a state of a fixed length if its checksum is right;
-- otherwise it stays as it is
abbrev pub RestoresFixedLengthState : HandleState → HandleState → List ℕ → ℕ → Type 0
RestoresFixedLengthState old new bytes status = old.is_open ≡ true → (new.is_open ≡ true)
    × IsRestoredFromFixedLengthState (machine_after_owed_dots old) (machine_after_owed_dots new) bytes status
