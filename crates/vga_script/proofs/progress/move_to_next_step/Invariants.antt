use Rattle.std.proofs.Common.{length}
use Rattle.vga_script.specs.Progress.{LeavesSameSteps}
use Rattle.vga_script.proofs.progress.move_to_next_step.Given as goal

-- from the first progress this one was reached
abbrev pub invariant-loop-opcode : goal.invariant-loop-opcode
invariant-loop-opcode l = LeavesSameSteps l.fn.progress.left l.fn.progress.body.now l.fn.progress.rest.now l.left l.body l.rest

abbrev pub decreases-loop-opcode : goal.decreases-loop-opcode
decreases-loop-opcode l = length l.rest
