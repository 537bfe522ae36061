-- What a call of interrupt 10 (hexadecimal) reads from the caller's memory.
use Rattle.std.specs.Prelude.{◌≡◌, ℕ, List, length, true}
use Rattle.vga_bits.specs.declared.refusal.Refusal.TheVariants.{BadBlock}
use Rattle.bios_services.specs.declared.regs.Regs.{Regs}
use Rattle.bios_services.specs.Blocks.{block_len, is_block_at_dx}
use Rattle.bios_services.specs.Calls.{call_of}
use Rattle.vga_run.specs.declared.machine.Machine.{Machine}
use Rattle.vga_run.specs.declared.answer.Answer.TheVariants.{Refused}
use Rattle.vga_run.specs.Answer.{Short}
use Rattle.vga_run.specs.Step.{answer_to}
use Rattle.vga_c.specs.declared.blocks.BlockPlace.{BlockPlace}
use Rattle.vga_c.specs.declared.services.CallRegisters.{CallRegisters}
use Rattle.vga_c.specs.Handle.{HandleState, machine_after_owed_dots}
use Rattle.vga_c.specs.Services.{call_step}

-- the registers of a call, as the services see them
abbrev pub regs_of : CallRegisters → Regs
regs_of r = record { ax = r.ax; bx = r.bx; cx = r.cx; dx = r.dx }

-- how many bytes a call reads, and where: at ES:DX, or else at ES:BP
abbrev pub IsBlockPlace : CallRegisters → BlockPlace → Type 0
IsBlockPlace r told =
    (told.len ≡ block_len (call_of (regs_of r))) × (told.is_at_dx ≡ is_block_at_dx (regs_of r))

-- with a block of this length the call is not refused for its block
abbrev pub IsBlockEnough : Machine → CallRegisters → ℕ → Type 0
IsBlockEnough m r len = (block : List ℕ) → length block ≡ len →
    ¬ (answer_to m (call_step r block) ≡ Short (Refused BadBlock))

-- an open card answers how many bytes a call reads, and where; with a block of that length the call
-- is not refused for its block
abbrev pub TellsBlock : HandleState → CallRegisters → BlockPlace → ℕ → Type 0
TellsBlock old r told status = old.is_open ≡ true →
    IsBlockPlace r told × (IsBlockEnough (machine_after_owed_dots old) r told.len × (status ≡ 0))
