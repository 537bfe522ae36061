use Rattle.std.proofs.Common.{◌≡◌, take, arith}
use Rattle.std.proofs.lemmas.List.{take_all}
use Rattle.vga_run.proofs.machine.report.take_steps_with_limit.Goals as goal

-- there are not more steps than that
pub returns-in-None-clause-text : goal.returns-in-None-clause-text
returns-in-None-clause-text g c =
    let w = rw c.of_step-line.ensures at c.take_and_write_first_steps.ensures.text in
    let few = c.requires.few in
    let all : take 18446744073709551615 c.args.steps ≡ c.args.steps = take_all 18446744073709551615 c.args.steps (omega arith) in
    rw c.in-None.is (rw all at w)

pub returns-in-None-clause-after : goal.returns-in-None-clause-after
returns-in-None-clause-after g c =
    let few = c.requires.few in
    let all : take 18446744073709551615 c.args.steps ≡ c.args.steps = take_all 18446744073709551615 c.args.steps (omega arith) in
    rw c.in-None.is (rw all at c.take_and_write_first_steps.ensures.after)
