use Rattle.std.proofs.Common.{◌∙◌, sym}
use Rattle.vga_script.specs.Tokens.{words}
use Rattle.vga_script.proofs.RepeatLineLemmas.{repeat_read, not_repeat_number, not_repeat_zero}
use Rattle.vga_script.proofs.repeat_lines.repeat_count_of_line.Goals as goal

-- the second word is no number
pub returns-in_default-number_of_word-clause-none : goal.returns-in_default-number_of_word-clause-none
returns-in_default-number_of_word-clause-none c =
    not_repeat_number (words c.args.line.now) c.in-Some.name.now c.in-Some.word.now c.in-Some.ensures.found (sym c.number_of_word.ensures.value
    ∙ c.in_default-number_of_word.is)

-- or it is 0
pub returns-then-count-eq0-clause-none : goal.returns-then-count-eq0-clause-none
returns-then-count-eq0-clause-none c =
    not_repeat_zero (words c.args.line.now) c.in-Some.name.now c.in-Some.word.now c.in-Some-number_of_word.count c.in-Some.ensures.found (sym c.number_of_word.ensures.value
    ∙ c.in-Some-number_of_word.is) c.if-count-eq0.true

-- or the count
pub returns-clause-found : goal.returns-clause-found
returns-clause-found c =
    repeat_read (words c.args.line.now) c.in-Some.name.now c.in-Some.word.now c.in-Some-number_of_word.count c.in-Some.ensures.found (sym c.is_name.ensures
    ∙ c.if-not-is_name.false) (sym c.number_of_word.ensures.value ∙ c.in-Some-number_of_word.is)
    c.if-count-eq0.false
