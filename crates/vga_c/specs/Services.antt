-- What a call of interrupt 10 (hexadecimal) does to a card, and what the caller gets.
use Rattle.std.specs.Prelude.{◌≡◌, ◌⊎◌, ℕ, true, List, Result, Ok, Err}
use Rattle.bios_modes.specs.Valid.{IsValid}
use Rattle.bios_services.specs.declared.regs.Regs.{Regs}
use Rattle.bios_services.specs.declared.reply.Reply.{Reply as ServiceReply}
use Rattle.bios_services.specs.declared.reply.ServiceError.{ServiceError}
use Rattle.bios_services.specs.declared.reply.ServiceError.TheVariants.{OutOfMemory}
use Rattle.bios_services.specs.declared.reply.ServiceError.TheVariants.{Refused as ServiceRefused}
use Rattle.vga_script.specs.declared.step.Step.{Step}
use Rattle.vga_script.specs.declared.step.Step.TheVariants.{Int}
use Rattle.vga_run.specs.declared.machine.Machine.{Machine}
use Rattle.vga_run.specs.declared.answer.Answer.TheVariants.{Refused}
use Rattle.vga_run.specs.Answer.{StepAnswer, Short, Served, of_service}
use Rattle.vga_run.specs.Step.{AllocatesMemory, after_step, answer_to}
use Rattle.vga_c.specs.Handle.{HandleState, machine_after_owed_dots}
use Rattle.vga_c.specs.declared.services.CallRegisters.{CallRegisters}
use Rattle.vga_c.specs.Buffers.{IsCopied}
use Rattle.vga_c.specs.Status.{bad_bios_data_status, out_of_memory_status, refusal_status}

-- The caller's output: the registers, a buffer for a table, and the table's length.
pub record ServiceOutput : Type 0 where
  pub registers : CallRegisters
  pub table : List ℕ
  pub len : ℕ

-- an output with these contents
abbrev pub service_output : CallRegisters → List ℕ → ℕ → ServiceOutput
service_output registers table len = record { registers = registers; table = table; len = len }

-- the step of a script that makes the call
abbrev pub call_step : CallRegisters → List ℕ → Step
call_step r block = Int r.ax r.bx r.cx r.dx block

-- the registers of an answer, as the caller gets them
abbrev pub registers_of : Regs → CallRegisters
registers_of r = record { ax = r.ax; bx = r.bx; cx = r.cx; dx = r.dx }

-- the output has the registers and the table of an answer; or the status is that of a refusal, and
-- the output is unchanged
abbrev pub HasServiceAnswer : StepAnswer → ServiceOutput → ServiceOutput → ℕ → Type 0
HasServiceAnswer (Served regs table) before after status = (after.registers ≡ registers_of regs)
    × IsCopied table before.table after.table after.len status
HasServiceAnswer (Short (Refused why)) before after status = (status ≡ refusal_status why)
    × (after ≡ before)
HasServiceAnswer reply before after status = ⊥

-- the output has what `int10` answers; or an allocation failed, and it is unchanged
abbrev pub HasServiceOutcome : Result ServiceReply ServiceError → ServiceOutput → ServiceOutput → ℕ
    → Type 0
HasServiceOutcome (Ok reply) before after status =
    HasServiceAnswer (of_service (Ok reply)) before after status
HasServiceOutcome (Err (ServiceRefused why)) before after status =
    HasServiceAnswer (of_service (Err why)) before after status
HasServiceOutcome (Err OutOfMemory) before after status =
    (status ≡ out_of_memory_status) × (after ≡ before)

-- a machine has taken the step of a call, and the output has its answer; or the allocation for its
-- table failed, and nothing has changed
abbrev pub IsCallTaken : Machine → Machine → Step → ServiceOutput → ServiceOutput → ℕ → Type 0
IsCallTaken old new step before after status =
    ((status ≡ out_of_memory_status) × (AllocatesMemory old step
    × ((after ≡ before) × (new ≡ old))))
    ⊎ ((new ≡ after_step old step) × HasServiceAnswer (answer_to old step) before after status)

-- an open card with valid BIOS data takes the step of a call, and the output has its answer; the
-- data stay valid
abbrev pub OpenCardTakesCall : HandleState → HandleState → List ℕ → ServiceOutput → ServiceOutput → ℕ → Type 0
OpenCardTakesCall old new block before after status = old.is_open ≡ true → IsValid (machine_after_owed_dots old).bda →
    (new.is_open ≡ true) × (IsValid (machine_after_owed_dots new).bda
    × IsCallTaken (machine_after_owed_dots old) (machine_after_owed_dots new) (call_step before.registers block) before after
    status)

-- a machine whose BIOS data are not valid stays as it is, the output too, and the status says so
abbrev pub InvalidBiosDataChangeNothing : {A : Type 0} → Machine → Machine → A → A → ℕ → Type 0
InvalidBiosDataChangeNothing old new before after status = (IsValid old.bda → ⊥) →
    (new ≡ old) × ((after ≡ before) × (status ≡ bad_bios_data_status))

-- an open card whose BIOS data are not valid stays as it is, the output too, and the status says so
abbrev pub InvalidBiosDataChangeNoCard : {A : Type 0} → HandleState → HandleState → A → A → ℕ → Type 0
InvalidBiosDataChangeNoCard old new before after status = old.is_open ≡ true →
    (new.is_open ≡ true) × InvalidBiosDataChangeNothing (machine_after_owed_dots old) (machine_after_owed_dots new) before after
    status
