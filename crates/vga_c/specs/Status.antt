-- The status that a call returns: 0 if it is done, the number of the refusal, or the number of what
-- the call itself misses.
use Rattle.std.specs.Prelude.{ℕ}
use Rattle.vga_bits.specs.declared.refusal.Refusal.{Refusal}
use Rattle.vga_bits.specs.declared.refusal.Refusal.TheVariants.{NotDecoded, NotInProfile, NoMode}
use Rattle.vga_bits.specs.declared.refusal.Refusal.TheVariants.{BadFunction, BadMode, WrongKind}
use Rattle.vga_bits.specs.declared.refusal.Refusal.TheVariants.{BadPage, Outside, CountPast}
use Rattle.vga_bits.specs.declared.refusal.Refusal.TheVariants.{BadRegister, BadBlock, TooFar}
use Rattle.vga_bits.specs.declared.refusal.Refusal.TheVariants.{BadHeight}
use Rattle.vga_run.specs.declared.answer.Answer.TheVariants.{Byte, Word, Refused}
use Rattle.vga_run.specs.Answer.{StepAnswer, Short}

-- the status of a refusal is its number
abbrev pub refusal_status : Refusal → ℕ
refusal_status NotDecoded = 1
refusal_status NotInProfile = 2
refusal_status NoMode = 3
refusal_status BadFunction = 4
refusal_status BadMode = 5
refusal_status WrongKind = 6
refusal_status BadPage = 7
refusal_status Outside = 8
refusal_status CountPast = 9
refusal_status BadRegister = 10
refusal_status BadBlock = 11
refusal_status TooFar = 12
refusal_status BadHeight = 13

-- the status of a step's answer: 0, or that of the refusal
abbrev pub status_of : StepAnswer → ℕ
status_of (Short (Refused why)) = refusal_status why
status_of reply = 0

-- what a step leaves in the caller's variable: what it read, or what was there
abbrev pub value_read_or_before : StepAnswer → ℕ → ℕ
value_read_or_before (Short (Byte value)) before = value
value_read_or_before (Short (Word value)) before = value
value_read_or_before reply before = before

-- the card is not open
abbrev pub no_card_status : ℕ
no_card_status = 20

-- the card is open already
abbrev pub open_already_status : ℕ
open_already_status = 21

-- the font file does not have 9,728 bytes
abbrev pub font_size_status : ℕ
font_size_status = 22

-- an allocation failed
abbrev pub out_of_memory_status : ℕ
out_of_memory_status = 23

-- two rows of the picture differ in width
abbrev pub ragged_status : ℕ
ragged_status = 24

-- the caller's buffer is too short
abbrev pub no_room_status : ℕ
no_room_status = 25

-- an argument is out of range
abbrev pub bad_argument_status : ℕ
bad_argument_status = 26

-- the BIOS data are not valid
abbrev pub bad_bios_data_status : ℕ
bad_bios_data_status = 27

-- the adapter shows no plain screen
abbrev pub no_screen_status : ℕ
no_screen_status = 28

-- the picture has more than 256 colours
abbrev pub many_colours_status : ℕ
many_colours_status = 35

-- the steps that were tried lead to another state
abbrev pub no_rebuilding_status : ℕ
no_rebuilding_status = 36

-- a script would have more bytes than a script may have
abbrev pub script_too_long_status : ℕ
script_too_long_status = 106
