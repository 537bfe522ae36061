use Rattle.vga_c.proofs.CallCycleLemmas.{listed, unlisted}
use Rattle.vga_c.proofs.call_cycles.list_cycles_with_valid_bios_data.Goals as goal

pub returns-in-Ok : goal.returns-in-Ok
returns-in-Ok c =
    listed c.args.machine.now c.args.registers.now c.args.block.now c.args.out.now c.copy_script.new.out c.args.len.now c.copy_script.new.len
    c.copy_script.result c.in-Ok.script c.in-Ok.ensures.list c.copy_script.ensures

pub returns-in-Err : goal.returns-in-Err
returns-in-Err c =
    unlisted c.args.machine.now c.args.registers.now c.args.block.now c.args.out.now c.args.len.now c.unlisted_status.result c.in-Err.why
    c.in-Err.ensures.err c.unlisted_status.ensures
