use Rattle.std.proofs.Common.{◌∙◌, refl, sym, arith}
use Rattle.vga_script.proofs.StepsLemmas.{one_passed, all_passed}
use Rattle.vga_script.proofs.steps.Steps.pass_over.Goals as goal

pub steps-init : goal.steps-init
steps-init c = refl

-- no step is left
pub returns-in_default : goal.returns-in_default
returns-in_default c =
    let first = c.in_default.ensures.first in
    first.1 ∙ sym (all_passed c.args.self.now c.steps.counter c.args.count (omega arith) (sym c.steps.invariant ∙ first.0))

-- one step more
pub steps-preserved : goal.steps-preserved
steps-preserved c = one_passed c.args.self.now c.next.new.self c.steps.counter _ (sym c.steps.invariant ∙ c.in-Some.ensures.first)
