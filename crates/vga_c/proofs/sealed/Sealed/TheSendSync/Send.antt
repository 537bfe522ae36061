-- A sealed machine owns what a box of a machine owns, which may cross to another thread as the machine may.
use mathlib.Core.Bool.{Bool, true, false}
use mir.Raw.{raw}
use base.Shift.{Keyless}
use denote.Memory.{lone}
use denote.RawPtr.{Ptr}
use denote.Struct.Struct.{exits_of}
use denote.Struct.Owning.{shape, fields, to}
use denote.Param.Send.{IsSend, AllSend, owning_send, struct_send, sendable}
use Rattle.std.specs.Global.{Global}
use Rattle.std.proofs.Crossing as heap
use Rattle.std_alloc.proofs.SendSync.{quiet, lies}
use Rattle.std_heap.proofs.Global.TheSendSync as handle
use Rattle.vga_run.specs.contracts.machine.Machine as Machine
use Rattle.vga_run.proofs.machine.Machine.TheSendSync.{the_send as machine}
use Rattle.vga_c.specs.Sealed.{owns_machine_if}
use Rattle.vga_c.specs.contracts.sealed.Sealed.{the_row, the_type}

keyless : (full : Bool) (a : Global) (p : Ptr) (m : Machine.the_row.Denot) → Keyless (owns_machine_if full a p m)
unfolding owns_machine_if
keyless true a p m = (lies Machine.the_row machine p m, heap.frees.frees a (raw (lone Machine.the_row.mir)) p)
keyless false a p m = tt

pub send : IsSend the_row
send =
    let all : AllSend (fields the_type) = (search sendable, (handle.the_field_send, tt)) in
    owning_send the_type all (λ d. keyless d.full d.alloc d.ptr d.machine)
    (λ k. quiet (to the_type) (exits_of k (fields the_type)) ((struct_send (shape the_type) all).leaving k))
