-- What the list of a call's cycles gives the caller.
use Rattle.std.proofs.Common.{◌≡◌, ℕ, ◌≤◌, List, length, Ok, Err, refl}
use Rattle.vga_script.specs.ScriptBytes.{BytesWritten}
use Rattle.vga_run.specs.declared.cycle_list.Unlisted.{Unlisted}
use Rattle.vga_run.specs.declared.machine.Machine.{Machine}
use Rattle.vga_run.specs.CycleList.{script_of_call_cycles, IsCycleList, IsUnlisted}
use Rattle.vga_c.specs.declared.services.CallRegisters.{CallRegisters}
use Rattle.vga_c.specs.Buffers.{IsCopied}
use Rattle.vga_c.specs.CallCycles.{regs_of, list_output, unlisted_status, AreCyclesListed}

pub listed : (m : Machine) (registers : CallRegisters) (block bytes new : List ℕ) (len after status : ℕ) (script : BytesWritten) →
    IsCycleList m (regs_of registers) block (length bytes) script →
    ((all : List ℕ) → script.len ≡ length all → (script.len ≤ length bytes → script.bytes ≡ all) → IsCopied all bytes new after status) →
    AreCyclesListed m registers block (list_output bytes len) (list_output new after) status
listed m registers block bytes new len after status script is copied =
    (Ok (script_of_call_cycles m (regs_of registers) block), (refl, is.spelled, is.done), copied (script_of_call_cycles m (regs_of registers) block) is.counted is.kept)

pub unlisted : (m : Machine) (registers : CallRegisters) (block bytes : List ℕ) (len status : ℕ) (why : Unlisted) →
    IsUnlisted m (regs_of registers) block why → status ≡ unlisted_status why →
    AreCyclesListed m registers block (list_output bytes len) (list_output bytes len) status
unlisted m registers block bytes len status why is told = (Err why, is, (told, refl))
