-- A card may go on in another thread: each of its fields may, by hand the one that owns the machine.
use denote.Param.Send.{IsSend}
use Rattle.vga_c.specs.contracts.handle.Handle.{the_row}
use Rattle.vga_c.proofs.handle.Handle.TheSendSync.{the_send}

pub cards_move : IsSend the_row
cards_move = the_send
