use Rattle.std.proofs.Common.{◌≡◌, ◌+◌, ◌∙◌, ℕ, ap, arith}
use Rattle.vga_script.specs.declared.step.Step.TheVariants.{Advance}
use Rattle.vga_run.specs.Step.{after_step}
use Rattle.vga_c.specs.Handle.{HandleState, machine_after_owed_dots}
use Rattle.vga_c.proofs.HandleLemmas.{owed_both}
use Rattle.vga_c.proofs.handle.Handle.owe.Goals as goal

pub returns-in-Some-clause-machine : goal.returns-in-Some-clause-machine
unfolding machine_after_owed_dots
returns-in-Some-clause-machine c done =
    let kept = c.self.inside.sealed.machine in
    let a = c.self.inside.owed in
    let sum : c.in-Some.owed ≡ a + c.args.dots = c.in-Some.ensures.1 in
    ap (λ (n : ℕ). after_step kept (Advance n)) sum
    ∙ owed_both c.dots_split.ensures.split kept a c.args.dots (omega (arith, sum, c.if-owed-le-MOST_DOTS.true))
    ∙ ap (λ (h : HandleState). after_step (after_step h.kept.machine (Advance h.owed)) (Advance c.args.dots)) c.self.view_is
