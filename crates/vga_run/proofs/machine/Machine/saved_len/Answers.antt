use Rattle.std.proofs.Common.{rules, arith}
use Rattle.vga_run.proofs.SavedLemmas.{machine_len}
use Rattle.vga_run.proofs.machine.Machine.saved_len.Goals as goal

pub returns-clause-value : goal.returns-clause-value
returns-clause-value c = omega (arith, machine_len c.args.self.now c.restore_gives_what_was_saved.ensures.len, c.saved_len.ensures.value)

pub returns-clause-few : goal.returns-clause-few
returns-clause-few c = search rules
