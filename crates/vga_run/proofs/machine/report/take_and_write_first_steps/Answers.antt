use Rattle.std.proofs.Common.{◌∙◌, take, refl, sym, arith}
use Rattle.std.proofs.lemmas.Result.{err_from_is_err_and}
use Rattle.vga_run.proofs.ReportLemmas.{reported_none, reported_more, reported_err, reported_all, way_more}
use Rattle.vga_run.proofs.TakenLemmas.{is_taken, none_taken, first_few}
use Rattle.vga_run.proofs.machine.report.take_and_write_first_steps.Goals as goal

-- no step is taken
pub steps-init : goal.steps-init
steps-init g c = record {
  reported = reported_none _ _ _ c.args.line.now (take c.args.most c.args.steps) c.requires.writer c.requires.valid;
  others = refl;
  number = omega arith;
  within = omega arith;
}

-- the machine and the writer are sound before each step, and so is the next number
pub take_and_write_step-requires-clause-writer : goal.take_and_write_step-requires-clause-writer
take_and_write_step-requires-clause-writer g c = c.steps.invariant.reported.sound

pub take_and_write_step-requires-clause-valid : goal.take_and_write_step-requires-clause-valid
take_and_write_step-requires-clause-valid g c = c.steps.invariant.reported.valid

pub count_up-requires : goal.count_up-requires
count_up-requires g c =
    let i = c.steps.invariant in
    let t = is_taken c.args.steps c.next.new.self c.steps.counter c.args.most c.in-Some.step c.steps-test.true (sym i.others ∙ c.in-Some.ensures.first) in
    omega (arith, t.below, i.number, c.in_ok-take_and_write_step.ensures.number, c.requires.numbers)

-- where a step ends the run, the steps before it are whole
pub returns-in_err-take_and_write_step-clause-text : goal.returns-in_err-take_and_write_step-clause-text
returns-in_err-take_and_write_step-clause-text g c =
    let i = c.steps.invariant in
    let t = is_taken c.args.steps c.next.new.self c.steps.counter c.args.most c.in-Some.step c.steps-test.true (sym i.others ∙ c.in-Some.ensures.first) in
    let p = err_from_is_err_and c.from_residual.result c.from_residual.ensures.1 in
    rw (p.1, p.2) (reported_err _ _ _ _ _ _ _ _ c.args.line.now _ _ _ _ _ i.reported i.number t.within t.is c.in_err-take_and_write_step.ensures.text)

pub returns-in_err-take_and_write_step-clause-way : goal.returns-in_err-take_and_write_step-clause-way
returns-in_err-take_and_write_step-clause-way g c =
    let i = c.steps.invariant in
    let t = is_taken c.args.steps c.next.new.self c.steps.counter c.args.most c.in-Some.step c.steps-test.true (sym i.others ∙ c.in-Some.ensures.first) in
    way_more _ _ _ (take c.args.most c.args.steps) c.steps.counter _ _ i.reported.state t.within t.is c.in_err-take_and_write_step.ensures.either

-- one more line
pub steps-preserved : goal.steps-preserved
steps-preserved g c =
    let i = c.steps.invariant in
    let t = is_taken c.args.steps c.next.new.self c.steps.counter c.args.most c.in-Some.step c.steps-test.true (sym i.others ∙ c.in-Some.ensures.first) in
    let step = c.in_ok-take_and_write_step.ensures in
    record {
      reported = reported_more _ _ _ _ _ _ _ _ c.args.line.now _ _ _ _ _ i.reported i.number t.within t.is step.after step.text.0 step.text.1 step.valid;
      others = t.others;
      number = omega (arith, c.count_up.ensures, step.number, i.number);
      within = omega (arith, t.within);
    }

-- no step is left
pub returns-in_default-clause-text : goal.returns-in_default-clause-text
returns-in_default-clause-text g c =
    let i = c.steps.invariant in
    let none = none_taken c.args.steps c.steps.counter c.args.most (sym i.others ∙ c.in_default.ensures.first.0) in
    let all = reported_all _ _ _ _ _ c.args.line.now _ _ i.reported none in
    (all.0, i.reported.sound)

pub returns-in_default-clause-number : goal.returns-in_default-clause-number
returns-in_default-clause-number g c =
    let i = c.steps.invariant in
    let none = none_taken c.args.steps c.steps.counter c.args.most (sym i.others ∙ c.in_default.ensures.first.0) in
    omega (arith, i.number, i.within, none)

pub returns-in_default-clause-after : goal.returns-in_default-clause-after
returns-in_default-clause-after g c =
    let i = c.steps.invariant in
    let none = none_taken c.args.steps c.steps.counter c.args.most (sym i.others ∙ c.in_default.ensures.first.0) in
    let all = reported_all _ _ _ _ _ c.args.line.now _ _ i.reported none in all.1

pub returns-in_default-clause-way : goal.returns-in_default-clause-way
returns-in_default-clause-way g c = (c.steps.counter, c.steps.invariant.reported.state)

pub returns-in_default-clause-valid : goal.returns-in_default-clause-valid
returns-in_default-clause-valid g c = c.steps.invariant.reported.valid

-- the first `most` steps are taken
pub returns-clause-text : goal.returns-clause-text
returns-clause-text g c =
    let i = c.steps.invariant in
    let few = first_few c.args.steps c.args.most in
    let all = reported_all _ _ _ _ _ c.args.line.now _ _ i.reported (omega arith) in
    (all.0, i.reported.sound)

pub returns-clause-number : goal.returns-clause-number
returns-clause-number g c =
    let i = c.steps.invariant in
    let few = first_few c.args.steps c.args.most in
    omega (arith, i.number, i.within, few)

pub returns-clause-after : goal.returns-clause-after
returns-clause-after g c =
    let i = c.steps.invariant in
    let few = first_few c.args.steps c.args.most in
    let all = reported_all _ _ _ _ _ c.args.line.now _ _ i.reported (omega arith) in all.1

pub returns-clause-way : goal.returns-clause-way
returns-clause-way g c = (c.steps.counter, c.steps.invariant.reported.state)

pub returns-clause-valid : goal.returns-clause-valid
returns-clause-valid g c = c.steps.invariant.reported.valid
