-- The cycles of a call of interrupt 10 (hexadecimal) as the steps of a script, and an adapter that
-- lists the cycles that are issued on it.
use Rattle.std.specs.Prelude.{ℕ, ◌≡◌, ◌≤◌, ◌<◌, ◌&&◌, nat_lt, Bool, List, [], ◌∷◌, length, Result, Err}
use Rattle.std.specs.Prelude.{IsOk}
use Rattle.vga_bits.specs.declared.refusal.Refusal.{Refusal}
use Rattle.vga_card.specs.Card.{CardState}
use Rattle.vga_card.specs.Bus.{BusMeaning, Place, AtPort, AtAddress, card_write, card_read}
use Rattle.bios_services.specs.declared.regs.Regs.{Regs}
use Rattle.bios_services.specs.Plan.{Plan, Done, Write, Read, read_byte_or_ff}
use Rattle.bios_services.specs.Service.{service}
use Rattle.vga_script.specs.declared.step.Step.{Step}
use Rattle.vga_script.specs.declared.step.Step.TheVariants.{Out, In, Put, Get}
use Rattle.vga_script.specs.ScriptBytes.{BytesWritten, with_bytes_appended, script_of_steps}
use Rattle.vga_script.specs.Spelling.{script_limit, spelling, encoding, Spells}
use Rattle.vga_run.specs.declared.machine.Machine.{Machine}
use Rattle.vga_run.specs.declared.cycle_list.Unlisted.{Unlisted}
use Rattle.vga_run.specs.declared.cycle_list.Unlisted.TheVariants.{Refused, TooLong, OutOfMemory}
use Rattle.vga_run.specs.Answer.{StepAnswer, Short}
use Rattle.vga_run.specs.declared.answer.Answer.TheVariants.{Byte}
use Rattle.vga_run.specs.Step.{after_int10, answer_to, after_step}

-- ---- cycles as steps

-- the step that writes a byte to a place
abbrev pub write_step_of_place : Place → ℕ → Step
write_step_of_place (AtPort port) v = Out port v
write_step_of_place (AtAddress address) v = Put address v

-- the step that reads a byte from a place
abbrev pub read_step_of_place : Place → Step
read_step_of_place (AtPort port) = In port
read_step_of_place (AtAddress address) = Get address

-- the cycles of a plan on an adapter, in order
abbrev pub cycles_of_plan : {A : Type 0} → Plan A → CardState → List Step
cycles_of_plan (Done a) c = []
cycles_of_plan (Write place v rest) c =
    write_step_of_place place v ∷ cycles_of_plan rest (card_write c place v).0
cycles_of_plan (Read place rest) c = let r = card_read c place in
    read_step_of_place place ∷ cycles_of_plan (rest (read_byte_or_ff r.1)) r.0

-- the cycles of a call of interrupt 10 on a machine
unfoldable pub cycles_of_call : Machine → Regs → List ℕ → List Step
cycles_of_call m regs block = cycles_of_plan (service m.fonts m.bda regs block) m.card

-- ---- what the cycles read

-- the byte that a plan gets from a step that reads; from a refused one, FF
abbrev pub byte_answered_or_ff : StepAnswer → ℕ
byte_answered_or_ff (Short (Byte v)) = v
byte_answered_or_ff other = 0xFF

-- the bytes that the reads among these steps give, if the steps are taken one after another
abbrev pub bytes_read_by_steps : Machine → List Step → List ℕ
bytes_read_by_steps m [] = []
bytes_read_by_steps m (In port ∷ steps) = byte_answered_or_ff (answer_to m (In port))
    ∷ bytes_read_by_steps (after_step m (In port)) steps
bytes_read_by_steps m (Get address ∷ steps) = byte_answered_or_ff (answer_to m (Get address))
    ∷ bytes_read_by_steps (after_step m (Get address)) steps
bytes_read_by_steps m (step ∷ steps) = bytes_read_by_steps (after_step m step) steps

-- what a plan answers if its reads give these bytes, and 0 when they are used up
abbrev pub plan_answer_from_bytes : {A : Type 0} → Plan A → List ℕ → A
plan_answer_from_bytes (Done a) bytes = a
plan_answer_from_bytes (Write place v rest) bytes = plan_answer_from_bytes rest bytes
plan_answer_from_bytes (Read place rest) [] = plan_answer_from_bytes (rest 0) []
plan_answer_from_bytes (Read place rest) (b ∷ bytes) = plan_answer_from_bytes (rest b) bytes

-- ---- an adapter that lists

-- An adapter, the script of the cycles that were issued on it, and whether the fields of each cycle
-- fit into their bytes.
pub record ListingCard : Type 0 where
  pub card : CardState
  pub script : BytesWritten
  pub fits : Bool

-- a port of 16 bits, or an address of 32 bits
abbrev pub is_place_in_range : Place → Bool
is_place_in_range (AtPort port) = nat_lt port 0x10000
is_place_in_range (AtAddress address) = nat_lt address 0x100000000

-- a write on the adapter, which is listed
abbrev pub list_write : ListingCard → Place → ℕ → ListingCard × Result (Unit {0}) Refusal
list_write s place v = let w = card_write s.card place v in (
  record {
    card = w.0;
    script = with_bytes_appended s.script (spelling (write_step_of_place place v));
    fits = s.fits && (is_place_in_range place && nat_lt v 0x100);
  },
  w.1,
)

-- a read on the adapter, which is listed
abbrev pub list_read : ListingCard → Place → ListingCard × Result ℕ Refusal
list_read s place = let r = card_read s.card place in (
  record {
    card = r.0;
    script = with_bytes_appended s.script (spelling (read_step_of_place place));
    fits = s.fits && is_place_in_range place;
  },
  r.1,
)

-- each cycle is issued on the adapter, and listed
abbrev pub list_meaning : BusMeaning ListingCard
list_meaning = record { write = list_write; read = list_read }

-- ---- the list of a call

-- the bytes of the script of a call's cycles
unfoldable pub script_of_call_cycles : Machine → Regs → List ℕ → List ℕ
script_of_call_cycles m regs block = encoding (script_of_steps (cycles_of_call m regs block))

-- These bytes list the cycles of a call that is not refused: they spell its script, and are kept if
-- there is room for all of them.
pub record IsCycleList (m : Machine) (regs : Regs) (block : List ℕ) (room : ℕ)
    (script : BytesWritten) : Type 0 where
  pub done : IsOk (after_int10 m regs.ax regs.bx regs.cx regs.dx block).1.0
  pub spelled : Spells (script_of_call_cycles m regs block) (script_of_steps (cycles_of_call m regs block))
  pub counted : script.len ≡ length (script_of_call_cycles m regs block)
  pub kept : script.len ≤ room → script.bytes ≡ script_of_call_cycles m regs block

-- why there is no list: the call is refused; or the script has too many bytes; or an allocation
-- failed
abbrev pub IsUnlisted : Machine → Regs → List ℕ → Unlisted → Type 0
IsUnlisted m regs block (Refused why) =
    (after_int10 m regs.ax regs.bx regs.cx regs.dx block).1.0 ≡ Err why
IsUnlisted m regs block TooLong = script_limit < length (script_of_call_cycles m regs block)
IsUnlisted m regs block OutOfMemory = Unit {0}
