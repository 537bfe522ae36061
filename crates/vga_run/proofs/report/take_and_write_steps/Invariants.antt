use Rattle.std.proofs.Common.{◌≡◌, ◌+◌}
use Rattle.vga_bits.specs.Tracked.{inner_of, has_failed}
use Rattle.vga_run.proofs.ReportLemmas.{Reported}
use Rattle.vga_run.proofs.report.take_and_write_steps.Given as goal

-- the lines of the steps so far are written, and the next has the next number
abbrev pub invariant-loop-step : goal.invariant-loop-step
invariant-loop-step g l = record {
  reported : Reported (g.W.Write.contents (inner_of l.initial.out)) (g.W.Write.contents (inner_of l.out)) (has_failed l.out) l.initial.machine l.machine l.first
      l.steps l.step-index;
  number : l.line ≡ l.first + l.step-index;
}
