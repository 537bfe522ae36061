use Rattle.std.proofs.Common.{◌+◌, ◌≤◌, length}
use Rattle.vga_script.specs.Decoding.{HasStepsBefore}
use Rattle.vga_script.proofs.items.behind_steps.Given as goal

-- the steps so far stand before the rest
abbrev pub invariant-loop-rest : goal.invariant-loop-rest
invariant-loop-rest l = record { good : HasStepsBefore l.bytes l.len l.rest; within : l.len + length l.rest ≤ length l.bytes }

abbrev pub decreases-loop-rest : goal.decreases-loop-rest
decreases-loop-rest l = length l.rest
