-- The machine is the one that the card keeps, and the dots are those that it owes.
use Rattle.std.proofs.Common.{◌∙◌, ap}
use Rattle.vga_script.specs.declared.step.Step.TheVariants.{Advance}
use Rattle.vga_run.specs.Step.{after_step}
use Rattle.vga_c.specs.Handle.{HandleState}
use Rattle.vga_c.proofs.handle.take_few_owing.Goals as goal

pub returns-clause-machine : goal.returns-clause-machine
returns-clause-machine c = ap (λ (h : HandleState). after_step c.take_out.result.value (Advance h.owed)) c.card.view_is ∙ c.take_out.ensures.machine
