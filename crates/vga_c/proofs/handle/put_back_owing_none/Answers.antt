use Rattle.std.proofs.Common.{◌∙◌, ap, ℕ}
use Rattle.vga_script.specs.declared.step.Step.TheVariants.{Advance}
use Rattle.vga_run.specs.Step.{after_step}
use Rattle.vga_c.proofs.HandleLemmas.{none_owed}
use Rattle.vga_c.proofs.handle.put_back_owing_none.Goals as goal

pub returns-clause-machine : goal.returns-clause-machine
returns-clause-machine c =
    let machine = c.args.machine.value in
    c.put_back.ensures.machine ∙ ap (λ (n : ℕ). after_step machine (Advance n)) c.requires.none ∙ none_owed c.dots_split.ensures.none machine
