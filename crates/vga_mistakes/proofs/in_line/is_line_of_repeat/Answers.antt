use Rattle.vga_mistakes.proofs.LineLemmas.{no_repeat}
use Rattle.vga_mistakes.proofs.in_line.is_line_of_repeat.Goals as goal

-- the line neither begins nor ends a repeat
pub returns-in-Two-None-clause-no : goal.returns-in-Two-None-clause-no
returns-in-Two-None-clause-no c =
    λ is_false. no_repeat c.args.version c.args.line.now c.is_repeat_end_line.result c.in-Two-None.ensures.none c.is_repeat_end_line.ensures is_false
