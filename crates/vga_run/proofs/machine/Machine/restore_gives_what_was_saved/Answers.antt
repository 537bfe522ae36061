use Rattle.vga_run.proofs.SavedLemmas.{machine_is_saved, machine_is_back}
use Rattle.vga_run.proofs.machine.Machine.restore_gives_what_was_saved.Goals as goal

pub returns-clause-saved : goal.returns-clause-saved
returns-clause-saved c = λ valid.
    machine_is_saved c.args.self.now c.restore_gives_what_was_saved.ensures.len c.restore_gives_what_was_saved-2.ensures.saved (c.restore_gives_what_was_saved.ensures.saved valid)

pub returns-clause-back : goal.returns-clause-back
returns-clause-back c =
    machine_is_back c.args.self.now c.restore_gives_what_was_saved.ensures.len c.restore_gives_what_was_saved-2.ensures.saved c.restore_gives_what_was_saved.ensures.back c.restore_gives_what_was_saved-2.ensures.back
