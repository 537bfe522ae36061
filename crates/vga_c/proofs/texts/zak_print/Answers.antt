use Rattle.vga_c.specs.Texts.{IsPrintedTextOfScriptOrFault}
use Rattle.vga_c.proofs.OutcomeLemmas.{has_bytes, has_fault}
use Rattle.vga_c.proofs.texts.zak_print.Goals as goal

-- the text
pub returns-in-Ok : goal.returns-in-Ok
returns-in-Ok c = has_bytes (IsPrintedTextOfScriptOrFault c.args.script.now) c.in-Ok.text.items _ c.args.out.now _ c.args.len.now _ c.args.place.now _
    c.in-Ok.ensures.ok c.as_slice.ensures.value c.write_bytes_if_room_and_their_count.ensures

-- or the first fault
pub returns-in-Err : goal.returns-in-Err
returns-in-Err c = has_fault (IsPrintedTextOfScriptOrFault c.args.script.now) c.args.out.now c.args.len.now c.args.place.now _ _ c.in-Err.fault
    c.in-Err.ensures.err c.status_and_place.ensures.status c.status_and_place.ensures.place
