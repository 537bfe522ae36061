-- What a `Sealed` owns: while it is full, the same as a `Box<Machine>`.
use Rattle.std.specs.Prelude.{Bool, true, false}
use base.Fml.{Fml, ftrue}
use base.Stored.{Coded}
use denote.RawPtr.{Ptr}
use Rattle.std.specs.Box.Ownership.{box_owns}
use Rattle.std.specs.Global.{Global}
use Rattle.std_heap.specs.contracts.GlobalAllocator.TheImpl.{ghosts}
use Rattle.vga_run.specs.contracts.machine.Machine.{the_row}

-- a machine on the heap, and the right to free its block
abbrev pub sealed_owns : Global → Ptr → the_row.Denot → Fml
sealed_owns alloc = box_owns (ghosts.dealloc_token alloc) the_row

-- a machine if there is one, and otherwise nothing
unfoldable pub owns_machine_if : Bool → Global → Ptr → the_row.Denot → Fml
owns_machine_if true alloc p m = sealed_owns alloc p m
owns_machine_if false alloc p m = ftrue

-- machines as values of a ghost field
abbrev pub machine_coded : Coded the_row.Denot
machine_coded = the_row.coded
