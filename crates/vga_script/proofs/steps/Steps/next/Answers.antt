use Rattle.std.proofs.Common.{rules, ◌≡◌, ◌∙◌, [], sym}
use Rattle.vga_script.proofs.ProgressLemmas.{none_left, step_taken, is_found}
use Rattle.vga_script.proofs.steps.Steps.next.Goals as goal

-- nothing is left
pub returns-then-is_empty-clause-first : goal.returns-then-is_empty-clause-first
returns-then-is_empty-clause-first c =
    let is : c.args.self.now ≡ [] = sym c.self.view_is ∙ none_left c.self.inside.left c.self.inside.body.now c.self.inside.rest.now c.self.invariant
    (search rules) in (is, is)

-- a step stands here
pub invariant_of-self : goal.invariant_of-self
invariant_of-self c = (step_taken c.self.inside.left _ _ _ _ c.self.invariant c.in-Ok.ensures.found).1

-- nothing but marks is left
pub returns-then-is_empty-2-clause-first : goal.returns-then-is_empty-2-clause-first
returns-then-is_empty-2-clause-first c =
    let p = c.move_to_next_step-progress.result in
    let reached = c.move_to_next_step-progress.ensures.reached in
    let none = none_left p.left p.body.now p.rest.now reached.stands (search rules) in
    (sym c.self.view_is ∙ sym reached.same ∙ none, none)

-- a step stands after marks
pub invariant_of-self-in-Ok-step_at : goal.invariant_of-self-in-Ok-step_at
invariant_of-self-in-Ok-step_at c = (step_taken c.move_to_next_step-progress.result.left _ _ _ _ c.move_to_next_step-progress.ensures.reached.stands
    c.in-Ok-step_at.ensures.found).1

pub returns-in-Err-clause-first : goal.returns-in-Err-clause-first
returns-in-Err-clause-first c =
    absurd (is_found c.move_to_next_step-progress.result.rest.now c.in-Err.field-0 c.move_to_next_step-progress.ensures.prefix (search rules) (λ is. c.in-Err.ensures.bad (cc))
    (λ is. c.in-Err.ensures.cut (cc)))
