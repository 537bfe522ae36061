use Rattle.std.proofs.Common.{◌∙◌, ap, sym, ℕ}
use Rattle.vga_script.specs.declared.step.Step.TheVariants.{Advance}
use Rattle.vga_run.specs.Step.{after_step}
use Rattle.vga_c.proofs.HandleLemmas.{none_owed}
use Rattle.vga_c.proofs.handle.take_out_owing_none.Goals as goal

pub returns-clause-machine : goal.returns-clause-machine
returns-clause-machine c =
    let machine = c.take_out.result.value in
    sym (none_owed c.dots_split.ensures.none machine) ∙ ap (λ (n : ℕ). after_step machine (Advance n)) (sym c.requires.none) ∙ c.take_out.ensures.machine
