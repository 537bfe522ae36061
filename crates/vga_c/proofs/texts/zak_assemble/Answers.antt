use Rattle.vga_c.specs.Texts.{IsAssembledScriptOrFault}
use Rattle.vga_c.proofs.OutcomeLemmas.{has_bytes, has_fault}
use Rattle.vga_c.proofs.texts.zak_assemble.Goals as goal

-- the bytes
pub returns-in-Ok : goal.returns-in-Ok
returns-in-Ok c = has_bytes (IsAssembledScriptOrFault c.args.text.now) c.in-Ok.bytes.items _ c.args.out.now _ c.args.len.now _ c.args.line.now _
    c.in-Ok.ensures.ok c.as_slice.ensures.value c.write_bytes_if_room_and_their_count.ensures

-- or the first fault
pub returns-in-Err : goal.returns-in-Err
returns-in-Err c = has_fault (IsAssembledScriptOrFault c.args.text.now) c.args.out.now c.args.len.now c.args.line.now _ _ c.in-Err.fault
    c.in-Err.ensures.err c.status_and_place.ensures.status c.status_and_place.ensures.place
