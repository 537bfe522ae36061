use Rattle.vga_run.proofs.CycleListLemmas.{call_taken, call_told}
use Rattle.vga_run.proofs.laws.listed_cycles_are_the_call.Goals as goal

pub returns-clause-state : goal.returns-clause-state
returns-clause-state c = call_taken

pub returns-clause-answer : goal.returns-clause-answer
returns-clause-answer c = call_told
