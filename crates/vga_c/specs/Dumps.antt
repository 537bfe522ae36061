-- The text of a dump, as the caller has it.
use Rattle.std.specs.Prelude.{◌≡◌, ◌⊎◌, ◌+◌, ◌&&◌, ℕ, true, false, nat_lt, nat_le, Bool, List}
use Rattle.std.specs.Prelude.{Option, Some, None}
use Rattle.vga_bits.specs.declared.refusal.Refusal.{Refusal}
use Rattle.bios_modes.specs.Valid.{IsValid}
use Rattle.vga_script.specs.declared.dump_range.Shown.{Shown}
use Rattle.vga_script.specs.declared.dump_range.Shown.TheVariants.{Plane}
use Rattle.vga_run.specs.declared.machine.Machine.{Machine}
use Rattle.vga_run.specs.Step.{dump_refusal, dump_text}
use Rattle.vga_c.specs.Handle.{HandleState, machine_after_owed_dots}
use Rattle.vga_c.specs.Buffers.{IsCopied}
use Rattle.vga_c.specs.Cards.{OpenCardKeepsMachine, ClosedCardStaysUnchanged, ClosedCardLeavesOutput}
use Rattle.vga_c.specs.Status.{bad_argument_status, bad_bios_data_status, out_of_memory_status}
use Rattle.vga_c.specs.Status.{refusal_status}

-- The caller's output: a buffer for the text, and its length.
pub record DumpOutput : Type 0 where
  pub text : List ℕ
  pub len : ℕ

-- an output with these contents
abbrev pub dump_output : List ℕ → ℕ → DumpOutput
dump_output text len = record { text = text; len = len }

-- the output is unchanged, and the status says why
abbrev pub IsUnchangedOutput : ℕ → DumpOutput → DumpOutput → ℕ → Type 0
IsUnchangedOutput why before after status = (after ≡ before) × (status ≡ why)

-- the output has a text, unless the dump is refused or an allocation failed
abbrev pub OutputHasDump : Option Refusal → List ℕ → DumpOutput → DumpOutput → ℕ → Type 0
OutputHasDump None text before after status = IsUnchangedOutput out_of_memory_status before after status
    ⊎ IsCopied text before.text after.text after.len status
OutputHasDump (Some why) text before after status =
    IsUnchangedOutput (refusal_status why) before after status

-- the output has the dump of a machine with valid BIOS data; if the data are not valid, the output
-- is unchanged and the status says so
abbrev pub DumpsMachine : Machine → Shown → DumpOutput → DumpOutput → ℕ → Type 0
DumpsMachine m what before after status =
    (IsValid m.bda → OutputHasDump (dump_refusal m what) (dump_text m what) before after status)
    × ((IsValid m.bda → ⊥) → IsUnchangedOutput bad_bios_data_status before after status)

-- a call that reads a card: the card stays as it is, and the output of one that is not open does
-- too
abbrev pub LeavesCardAndOutputOfClosedCard : HandleState → HandleState → DumpOutput → DumpOutput → ℕ → Type 0
LeavesCardAndOutputOfClosedCard old new before after status = OpenCardKeepsMachine old new
    × (ClosedCardStaysUnchanged old new status × ClosedCardLeavesOutput old before after)

-- a call dumps this part of an open card; the card stays as it is
abbrev pub Shows : Shown → HandleState → HandleState → DumpOutput → DumpOutput → ℕ → Type 0
Shows what old new before after status = LeavesCardAndOutputOfClosedCard old new before after status
    × (old.is_open ≡ true → DumpsMachine (machine_after_owed_dots old) what before after status)

-- bytes of a plane: 1 to 256, none past its end
abbrev pub is_plane_part : ℕ → ℕ → ℕ → Bool
is_plane_part plane offset count = nat_lt plane 4 && (nat_lt 0 count && (nat_le count 256
    && nat_le (offset + count) 0x1_0000))

-- a call dumps these bytes of a plane of an open card; a range that is not 1 to 256 bytes within a
-- plane is refused
abbrev pub DumpsPlanePart : ℕ → ℕ → ℕ → HandleState → HandleState → DumpOutput → DumpOutput → ℕ
    → Type 0
DumpsPlanePart plane offset count old new before after status =
    LeavesCardAndOutputOfClosedCard old new before after status
    × ((is_plane_part plane offset count ≡ true →
    Shows (Plane plane offset count) old new before after status)
    × (is_plane_part plane offset count ≡ false → old.is_open ≡ true →
    IsUnchangedOutput bad_argument_status before after status))
