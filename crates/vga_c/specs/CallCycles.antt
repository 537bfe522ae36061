-- What the list of the cycles of a call of interrupt 10 (hexadecimal) gives the caller.
use Rattle.std.specs.Prelude.{◌≡◌, ℕ, true, List, Result, Ok, Err, IsOk}
use Rattle.bios_modes.specs.Valid.{IsValid}
use Rattle.bios_services.specs.declared.regs.Regs.{Regs}
use Rattle.vga_script.specs.ScriptBytes.{script_of_steps}
use Rattle.vga_script.specs.Spelling.{Spells}
use Rattle.vga_run.specs.declared.cycle_list.Unlisted.{Unlisted}
use Rattle.vga_run.specs.declared.cycle_list.Unlisted.TheVariants.{Refused, TooLong, OutOfMemory}
use Rattle.vga_run.specs.declared.machine.Machine.{Machine}
use Rattle.vga_run.specs.CycleList.{cycles_of_call, script_of_call_cycles, IsUnlisted}
use Rattle.vga_run.specs.Step.{after_int10}
use Rattle.vga_c.specs.declared.services.CallRegisters.{CallRegisters}
use Rattle.vga_c.specs.Buffers.{IsCopied}
use Rattle.vga_c.specs.Handle.{HandleState, machine_after_owed_dots}
use Rattle.vga_c.specs.Status.{out_of_memory_status, refusal_status, script_too_long_status}

-- the registers of a call, as the services see them
abbrev pub regs_of : CallRegisters → Regs
regs_of r = record { ax = r.ax; bx = r.bx; cx = r.cx; dx = r.dx }

-- The caller's output: a buffer for bytes, and how many there are.
pub record ListOutput : Type 0 where
  pub bytes : List ℕ
  pub len : ℕ

-- an output with these contents
abbrev pub list_output : List ℕ → ℕ → ListOutput
list_output bytes len = record { bytes = bytes; len = len }

-- the status that says why there is no list
abbrev pub unlisted_status : Unlisted → ℕ
unlisted_status (Refused why) = refusal_status why
unlisted_status TooLong = script_too_long_status
unlisted_status OutOfMemory = out_of_memory_status

-- the bytes that list the cycles of a call that is not refused: they spell the script of the
-- cycles; or why there are none
abbrev pub IsOutcomeOfList : Machine → Regs → List ℕ → Result (List ℕ) Unlisted → Type 0
IsOutcomeOfList m regs block (Ok bytes) = (bytes ≡ script_of_call_cycles m regs block)
    × Spells bytes (script_of_steps (cycles_of_call m regs block))
    × IsOk (after_int10 m regs.ax regs.bx regs.cx regs.dx block).1.0
IsOutcomeOfList m regs block (Err why) = IsUnlisted m regs block why

-- the output has the bytes that list the cycles; or the status says why there are none, and the
-- output is unchanged
abbrev pub OutputHasCycles : Result (List ℕ) Unlisted → ListOutput → ListOutput → ℕ → Type 0
OutputHasCycles (Ok bytes) before after status = IsCopied bytes before.bytes after.bytes after.len status
OutputHasCycles (Err why) before after status = (status ≡ unlisted_status why) × (after ≡ before)

-- the output lists the cycles of a call on a machine, or the status says why there is no list
abbrev pub AreCyclesListed : Machine → CallRegisters → List ℕ → ListOutput → ListOutput → ℕ → Type 0
AreCyclesListed m registers block before after status = (outcome : Result (List ℕ) Unlisted)
    × IsOutcomeOfList m (regs_of registers) block outcome × OutputHasCycles outcome before after status

-- the cycles of a call on an open card with valid BIOS data are listed to the output, or the status
-- says why not
abbrev pub OpenCardListsCycles : HandleState → CallRegisters → List ℕ → ListOutput → ListOutput → ℕ → Type 0
OpenCardListsCycles old registers block before after status = old.is_open ≡ true →
    IsValid (machine_after_owed_dots old).bda →
    AreCyclesListed (machine_after_owed_dots old) registers block before after status
