use Rattle.std.proofs.Common.{rules, ◌<◌, length}
use Rattle.vga_script.specs.Beginning.{steps_in}
use Rattle.vga_script.proofs.WalkLemmas.{steps_go_on, steps_end, never_stops}
use Rattle.vga_script.proofs.printing.print_steps.Goals as goal

-- one more step is printed
pub loop-rest-preserved : goal.loop-rest-preserved
loop-rest-preserved c =
    steps_go_on c.args.out.now.items c.loop-rest.out.items c.print_step.new.out.items c.args.bytes.now c.loop-rest.rest.now c.in-Ok.others.now c.in-Ok.step
    c.loop-rest.invariant c.in-Ok.ensures.found c.in_ok-print_step-in-Ok.ensures.ok

-- the bytes spell steps
pub returns-in-Err-clause-ok : goal.returns-in-Err-clause-ok
returns-in-Err-clause-ok c =
    let rest = c.loop-rest.rest.now in
    let some : 0 < length rest = search rules in
    absurd (never_stops rest (steps_in rest) c.in-Err.field-0 some c.loop-rest.invariant.good (λ is. c.in-Err.ensures.bad (cc)) (λ is.
    c.in-Err.ensures.cut (cc)))

-- nothing is left
pub returns-clause-ok : goal.returns-clause-ok
returns-clause-ok c = steps_end c.args.out.now.items c.loop-rest.out.items c.args.bytes.now c.loop-rest.rest.now c.loop-rest.invariant (search rules)
