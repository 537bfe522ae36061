use Rattle.std.proofs.Common.{codes}
use Rattle.vga.proofs.WordsLemmas.{command_is_asked}
use Rattle.vga.proofs.arguments.matched_job.Goals as goal

-- the matches are those of `asm`
pub returns-in-Some-asm-default : goal.returns-in-Some-asm-default
returns-in-Some-asm-default c =
    let e = c.in-Some-asm-default.ensures in
    rw (command_is_asked _ _ (codes "asm") _ e.name e.rows c.in-Some-asm-default.is-asm) c.asm_job.ensures

-- the matches are those of `dis`
pub returns-in-Some-dis-default : goal.returns-in-Some-dis-default
returns-in-Some-dis-default c =
    let e = c.in-Some-dis-default.ensures in
    rw (command_is_asked _ _ (codes "dis") _ e.name e.rows c.in-Some-dis-default.is-dis) c.dis_job.ensures

-- the matches are those of `run`
pub returns-in-Some-run-default : goal.returns-in-Some-run-default
returns-in-Some-run-default c =
    let e = c.in-Some-run-default.ensures in
    rw (command_is_asked _ _ (codes "run") _ e.name e.rows c.in-Some-run-default.is-run) c.run_job.ensures

-- the matches are those of `go`
pub returns-in-Some-go-default : goal.returns-in-Some-go-default
returns-in-Some-go-default c =
    let e = c.in-Some-go-default.ensures in
    rw (command_is_asked _ _ (codes "go") _ e.name e.rows c.in-Some-go-default.is-go) c.go_job.ensures
