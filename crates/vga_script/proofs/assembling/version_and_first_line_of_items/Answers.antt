use Rattle.std.proofs.Common.{ℕ, List, Option, Bor, option_copied, length, subst}
use Rattle.vga_script.proofs.AssembleLemmas.{HasBlank, never, left_shorter, blank_more, not_two, none_two}
use Rattle.vga_script.proofs.assembling.version_and_first_line_of_items.Goals as goal

-- the first line with a word does not say version 2
pub returns-then-has_word-clause-one : goal.returns-then-has_word-clause-one
returns-then-has_word-clause-one c one =
    let h = subst (λ (l : Option (Bor (List ℕ))). HasBlank c.args.text.now c.loop-left.number (option_copied l)) c.in-Some.is c.loop-left.invariant in
    not_two c.args.text.now c.in-Some.rest.now c.first_line.result.0.now (option_copied c.first_line.result.1) c.loop-left.number h c.first_line.ensures.line
    (c.has_word.ensures.some c.if-has_word.true)
    (λ is. never c.says_version_two.result c.if-says_version_two.false (c.says_version_two.ensures.1 is))

-- one more line without a word
pub loop-left-preserved : goal.loop-left-preserved
loop-left-preserved c =
    let h = subst (λ (l : Option (Bor (List ℕ))). HasBlank c.args.text.now c.loop-left.number (option_copied l)) c.in-Some.is c.loop-left.invariant in
    blank_more c.args.text.now c.in-Some.rest.now c.first_line.result.0.now (option_copied c.first_line.result.1) c.loop-left.number h c.first_line.ensures.line
    (left_shorter c.first_line.result.1 (length c.in-Some.rest.now) c.first_line.ensures.shorter) (c.has_word.ensures.none c.if-has_word.false)

-- no line has a word
pub returns-clause-one : goal.returns-clause-one
returns-clause-one c one =
    none_two c.args.text.now c.loop-left.number (subst (λ (l : Option (Bor (List ℕ))). HasBlank c.args.text.now c.loop-left.number (option_copied l))
    c.in_default.is c.loop-left.invariant)
