use Rattle.std.proofs.Common.{◌≡◌, ◌+◌, ◌≤◌, length, take, drop}
use Rattle.vga_bits.specs.Tracked.{inner_of, has_failed}
use Rattle.vga_run.proofs.ReportLemmas.{Reported}
use Rattle.vga_run.proofs.machine.report.take_and_write_first_steps.Given as goal

-- the lines of the steps so far are written, the others are left, and the next has the next number
abbrev pub invariant-steps : goal.invariant-steps
invariant-steps g l = record {
  reported : Reported (g.W.Write.contents (inner_of l.initial.out)) (g.W.Write.contents (inner_of l.out)) (has_failed l.out) l.initial.machine l.machine
      l.initial.line (take l.most l.initial.left) l.counter;
  others : l.left ≡ drop l.counter l.initial.left;
  number : l.line ≡ l.initial.line + l.counter;
  within : l.counter ≤ length (take l.most l.initial.left);
}
