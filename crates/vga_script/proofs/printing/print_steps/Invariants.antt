use Rattle.std.proofs.Common.{length}
use Rattle.vga_script.proofs.WalkLemmas.{HasPrintedSteps}
use Rattle.vga_script.proofs.printing.print_steps.Given as goal

-- the text so far and that of what is left
abbrev pub invariant-loop-rest : goal.invariant-loop-rest
invariant-loop-rest l = HasPrintedSteps l.initial.out.items l.out.items l.bytes l.rest

abbrev pub decreases-loop-rest : goal.decreases-loop-rest
decreases-loop-rest l = length l.rest
