-- Machines that are the same have the same report of any steps.
use Rattle.std.proofs.Common.{◌≡◌, ◌∙◌, ℕ, sym, ap, List}
use Rattle.vga_script.specs.declared.step.Step.{Step}
use Rattle.vga_run.specs.declared.machine.Machine.{Machine}
use Rattle.vga_run.specs.Report.{report_from}
use Rattle.vga_run.specs.Saved.{machine_without_unseen_dots}
use Rattle.vga_run.proofs.FreshCanvasLemmas.{report_same}

pub same_report : (one other : Machine) (n : ℕ) (steps : List Step) → machine_without_unseen_dots one ≡ machine_without_unseen_dots other
    → report_from one n steps ≡ report_from other n steps
same_report one other n steps same =
    sym (report_same one n steps) ∙ ap (λ (m : Machine). report_from m n steps) same ∙ report_same other n steps
