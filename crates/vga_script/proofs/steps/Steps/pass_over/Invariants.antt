use Rattle.std.proofs.Common.{◌≡◌, drop}
use Rattle.vga_script.proofs.steps.Steps.pass_over.Given as goal

abbrev pub invariant-steps : goal.invariant-steps
invariant-steps l = l.self ≡ drop l.counter l.initial.self
