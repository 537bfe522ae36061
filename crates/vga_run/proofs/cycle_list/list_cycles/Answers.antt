-- What the call leaves of a copy is what it leaves of the machine.
use Rattle.std.proofs.Common.{Result, Ok, Err, subst, sym, ap, ◌∙◌}
use Rattle.vga_bits.specs.declared.refusal.Refusal.{Refusal}
use Rattle.bios_services.specs.declared.reply.Reply.{Reply}
use Rattle.bios_services.specs.declared.reply.ServiceError.{ServiceError}
use Rattle.bios_services.specs.Service.{MayAnswer, service}
use Rattle.vga_run.specs.CycleList.{list_meaning}
use Rattle.vga_run.proofs.CycleListLemmas.{call_left, call_listed, call_too_long, call_refused, if_ok, if_err}
use Rattle.vga_run.proofs.cycle_list.list_cycles.Goals as goal

pub returns-in-Ok-clause-list : goal.returns-in-Ok-clause-list
returns-in-Ok-clause-list c =
    let m = c.args.machine.now in
    let regs = c.args.regs in
    let block = c.args.block.now in
    let room = c.room_within_limit.result in
    let left = call_left m regs block room c.copy-bda.result c.in_ok-listed.listed c.int10.new.bus (Ok c.in-Ok.field-0, c.int10.new.bda) c.copy-bda.ensures
    c.in_ok-listed.ensures.ok c.in-Ok.ensures.answer in
    if_ok c.into_script.result
    (λ script kept. call_listed m regs block c.args.room room c.int10.new.bus script c.in-Ok.field-0 c.int10.new.bda left c.into_script.ensures.fits kept.0 kept.1
    c.room_within_limit.ensures)
    c.into_script.ensures.ok

pub returns-in-Ok-clause-err : goal.returns-in-Ok-clause-err
returns-in-Ok-clause-err c =
    let m = c.args.machine.now in
    let regs = c.args.regs in
    let block = c.args.block.now in
    let room = c.room_within_limit.result in
    let left = call_left m regs block room c.copy-bda.result c.in_ok-listed.listed c.int10.new.bus (Ok c.in-Ok.field-0, c.int10.new.bda) c.copy-bda.ensures
    c.in_ok-listed.ensures.ok c.in-Ok.ensures.answer in
    if_err c.into_script.result (λ why long. call_too_long m regs block room c.int10.new.bus (Ok c.in-Ok.field-0, c.int10.new.bda) why left long.0 long.1)
    c.into_script.ensures.err

pub returns-in-Err-Refused-clause-err : goal.returns-in-Err-Refused-clause-err
returns-in-Err-Refused-clause-err c =
    let m = c.args.machine.now in
    let regs = c.args.regs in
    let block = c.args.block.now in
    let room = c.room_within_limit.result in
    let why = c.in-Err-Refused.why in
    let answer = subst (λ (e : ServiceError). MayAnswer list_meaning (service m.fonts c.copy-bda.result regs block) c.in_ok-listed.listed c.copy-bda.result
    (Err e) c.int10.new.bus c.int10.new.bda) c.in-Err-Refused.field-0-is c.in-Err-Refused.ensures.answer in
    call_refused m regs block room c.int10.new.bus why c.int10.new.bda
    (call_left m regs block room c.copy-bda.result c.in_ok-listed.listed c.int10.new.bus (Err why, c.int10.new.bda) c.copy-bda.ensures
    c.in_ok-listed.ensures.ok answer)
    ∙ ap (λ (w : Refusal). let r : Result Reply Refusal = Err w in r) (sym c.in-Err-Refused.why-is)
