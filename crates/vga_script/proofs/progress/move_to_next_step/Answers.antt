use Rattle.std.proofs.Common.{ℕ, ◌∷◌, ◌∙◌, ap}
use Rattle.vga_script.proofs.ProgressLemmas.{repeat_again, repeat_begins, empty_repeat, no_mark, through, ends_last}
use Rattle.vga_script.proofs.progress.move_to_next_step.Goals as goal

-- a block ends that is taken again
pub returns-then-left-gt0-clause-reached : goal.returns-then-left-gt0-clause-reached
returns-then-left-gt0-clause-reached c =
    let is = c.in-Ok.ensures.found ∙ ap (λ (o : ℕ). o ∷ c.in-Ok.others.now) c.if-opcode-eq-END.true in
    through _ _ _ _ _ _ _ _ _ c.loop-opcode.invariant (repeat_again _ _ _ _ c.loop-opcode.invariant.stands is c.if-left-gt0.true).0

pub returns-then-left-gt0-clause-prefix : goal.returns-then-left-gt0-clause-prefix
returns-then-left-gt0-clause-prefix c =
    let is = c.in-Ok.ensures.found ∙ ap (λ (o : ℕ). o ∷ c.in-Ok.others.now) c.if-opcode-eq-END.true in
    (repeat_again _ _ _ _ c.loop-opcode.invariant.stands is c.if-left-gt0.true).1

-- one that is not
pub loop-opcode-preserved-then-opcode-eq-END : goal.loop-opcode-preserved-then-opcode-eq-END
loop-opcode-preserved-then-opcode-eq-END c =
    let is = c.in-Ok.ensures.found ∙ ap (λ (o : ℕ). o ∷ c.in-Ok.others.now) c.if-opcode-eq-END.true in
    through _ _ _ _ _ _ _ _ _ c.loop-opcode.invariant (ends_last _ _ _ _ _ c.if-left-gt0.false c.loop-opcode.invariant.stands is c.split_at.ensures.front)

-- a block of no steps
pub loop-opcode-preserved : goal.loop-opcode-preserved
loop-opcode-preserved c =
    let is = c.in-Ok.ensures.found ∙ ap (λ (o : ℕ). o ∷ c.in-Ok.others.now) c.if-opcode-eq-REPEAT.true in
    through _ _ _ _ _ _ _ _ _ c.loop-opcode.invariant (empty_repeat _ _ _ _ _ _ _ c.loop-opcode.invariant.stands is c.repeat_count_at-count.ensures.fields
    c.repeat_count_at-count.ensures.small c.in-Some.ensures.found)

-- one of some steps
pub overflow_sub-result-in-None : goal.overflow_sub-result-in-None
overflow_sub-result-in-None c =
    let is = c.in-Ok.ensures.found ∙ ap (λ (o : ℕ). o ∷ c.in-Ok.others.now) c.if-opcode-eq-REPEAT.true in
    (repeat_begins c.args.progress.left _ _ _ _ _ c.loop-opcode.invariant.stands is c.repeat_count_at-count.ensures.fields c.repeat_count_at-count.ensures.small
    c.in-None.ensures.none).0

pub returns-in-None-clause-reached : goal.returns-in-None-clause-reached
returns-in-None-clause-reached c =
    let is = c.in-Ok.ensures.found ∙ ap (λ (o : ℕ). o ∷ c.in-Ok.others.now) c.if-opcode-eq-REPEAT.true in
    through _ _ _ _ _ _ _ _ _ c.loop-opcode.invariant (repeat_begins _ _ _ _ _ _ c.loop-opcode.invariant.stands is c.repeat_count_at-count.ensures.fields
    c.repeat_count_at-count.ensures.small c.in-None.ensures.none).1

pub returns-in-None-clause-prefix : goal.returns-in-None-clause-prefix
returns-in-None-clause-prefix c =
    let is = c.in-Ok.ensures.found ∙ ap (λ (o : ℕ). o ∷ c.in-Ok.others.now) c.if-opcode-eq-REPEAT.true in
    (repeat_begins c.args.progress.left _ _ _ _ _ c.loop-opcode.invariant.stands is c.repeat_count_at-count.ensures.fields c.repeat_count_at-count.ensures.small
    c.in-None.ensures.none).2

-- a step
pub returns-else-opcode-eq-REPEAT-clause-prefix : goal.returns-else-opcode-eq-REPEAT-clause-prefix
returns-else-opcode-eq-REPEAT-clause-prefix c =
    no_mark _ _ _ _ c.loop-opcode.invariant.stands c.in-Ok.ensures.found c.if-opcode-eq-REPEAT.false c.if-opcode-eq-END.false
