-- Copying to the caller's buffers.
use Rattle.std.specs.Prelude.{◌≡◌, ◌++◌, ℕ, if◌then◌else◌, nat_le, List, length, drop}
use Rattle.vga_c.specs.Status.{no_room_status}

-- the buffer with these bytes at its beginning; unchanged if it is too short for them
abbrev pub buffer_with_bytes_if_room : List ℕ → List ℕ → List ℕ
buffer_with_bytes_if_room bytes buffer = if nat_le (length bytes) (length buffer)
    then bytes ++ drop (length bytes) buffer else buffer

-- the status of a call that needs room for `need` in a buffer of `room`
abbrev pub room_status : ℕ → ℕ → ℕ
room_status need room = if nat_le need room then 0 else no_room_status

-- the buffer begins with the bytes, and the caller learns how many they are; or there was no room
-- for them
abbrev pub IsCopied : List ℕ → List ℕ → List ℕ → ℕ → ℕ → Type 0
IsCopied bytes old new len status = (len ≡ length bytes) × ((new ≡ buffer_with_bytes_if_room bytes old)
    × (status ≡ room_status (length bytes) (length old)))
