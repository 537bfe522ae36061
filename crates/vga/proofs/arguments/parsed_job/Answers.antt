use Rattle.std.proofs.Common.{sym}
use Rattle.vga.proofs.WordsLemmas.{bad_count_answers, refusal_answers, matches_answer}
use Rattle.vga.proofs.arguments.parsed_job.Goals as goal

-- the parser refuses the words
pub returns-in_err-matches : goal.returns-in_err-matches
returns-in_err-matches c =
    let e = c.in_err-matches.ensures in
    refusal_answers _ _ _ _ c.in_ok-line.ensures e.kinds c.from_residual-in_err-matches.ensures.1

-- the number of steps is none
pub returns-then-matches_have_bad_limit : goal.returns-then-matches_have_bad_limit
returns-then-matches_have_bad_limit c =
    let e = c.in_ok-matches.ensures in
    bad_count_answers _ _ _ _ c.in_ok-line.ensures e.kinds e.ok.2 (sym c.if-matches_have_bad_limit.ensures) c.refuse_count.ensures

-- the parser takes the words
pub returns : goal.returns
returns c =
    let e = c.in_ok-matches.ensures in
    matches_answer _ _ _ _ c.in_ok-line.ensures e.kinds e.ok.2 (sym c.if-matches_have_bad_limit.ensures) c.matched_job.ensures
