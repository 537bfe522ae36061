use Rattle.std.proofs.Common.{refl, rules}
use Rattle.std.proofs.lemmas.Result.{err_from_is_err_and}
use Rattle.vga_script.specs.Spelled.{spelled_item}
use Rattle.vga_script.proofs.DecodeLemmas.{decoded_fault}
use Rattle.vga_script.proofs.DecodeLemmas.{passed_more, passed_step, many_steps, passed_all}
use Rattle.vga_script.proofs.judge.check_items.Goals as goal

-- the next item has a fault
pub returns-in_err-others-clause-fault : goal.returns-in_err-others-clause-fault
returns-in_err-others-clause-fault c =
    let p = err_from_is_err_and c.from_residual.result c.from_residual.ensures.1 in
    rw (p.1, p.2) (decoded_fault c.args.bytes.now c.loop-rest.rest.now c.args.version c.loop-rest.invariant.0 c.loop-rest.so_far _ _ c.loop-rest.invariant.1
    refl
    c.in_err-others.ensures.fault)

-- with the next step there are too many
pub returns-then-so_far-eq-STEP_LIMIT-clause-fault : goal.returns-then-so_far-eq-STEP_LIMIT-clause-fault
returns-then-so_far-eq-STEP_LIMIT-clause-fault c =
    many_steps c.args.bytes.now c.loop-rest.rest.now c.in-Some.others.now c.args.version c.loop-rest.so_far _ c.in-Some.ensures.0 c.loop-rest.invariant refl
    c.in-Some.ensures.1 c.if-so_far-eq-STEP_LIMIT.true

-- one more step is passed over
pub loop-rest-preserved-in-Some : goal.loop-rest-preserved-in-Some
loop-rest-preserved-in-Some c =
    passed_step c.args.bytes.now c.loop-rest.rest.now c.in-Some.others.now c.args.version c.loop-rest.so_far c.in-Some.ensures.0 c.loop-rest.invariant
    c.in-Some.ensures.1 c.if-so_far-eq-STEP_LIMIT.false

-- or one more item
pub loop-rest-preserved : goal.loop-rest-preserved
loop-rest-preserved c =
    passed_more c.args.bytes.now c.loop-rest.rest.now c.in_ok-others.others.now c.args.version c.loop-rest.so_far c.in_ok-others.more
    (spelled_item c.in_ok-others.field-0-0) c.loop-rest.invariant c.in_ok-others.ensures.found
    c.in_ok-others.ensures.counted c.in_ok-others.ensures.within

-- nothing is left
pub returns-clause-found : goal.returns-clause-found
returns-clause-found c = passed_all c.args.bytes.now c.loop-rest.rest.now c.args.version c.loop-rest.so_far c.loop-rest.invariant (search rules)
