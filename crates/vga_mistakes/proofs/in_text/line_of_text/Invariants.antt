use Rattle.std.proofs.Common.{◌≡◌, ◌-◌, slice_get}
use Rattle.std.specs.Option.{option_copied}
use Rattle.vga_script.specs.Tokens.{lines, lines_of_rest}
use Rattle.vga_mistakes.proofs.in_text.line_of_text.Given as goal

-- the line stands so many lines after the first that is left
abbrev pub invariant-loop-before : goal.invariant-loop-before
invariant-loop-before l = slice_get (lines_of_rest (option_copied l.left)) l.before ≡ slice_get (lines l.text) (l.number - 1)

abbrev pub decreases-loop-before : goal.decreases-loop-before
decreases-loop-before l = l.before
