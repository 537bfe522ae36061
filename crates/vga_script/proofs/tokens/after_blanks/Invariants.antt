use Rattle.std.proofs.Common.{◌≡◌, length}
use Rattle.vga_script.specs.Tokens.{words_between_blanks, IsEndOf}
use Rattle.vga_script.proofs.tokens.after_blanks.Given as goal

-- the rest is the end of the whole, and has its words
abbrev pub invariant-loop-rest : goal.invariant-loop-rest
invariant-loop-rest l = record { words : words_between_blanks l.rest ≡ words_between_blanks l.line; end : IsEndOf l.line l.rest }

abbrev pub decreases-loop-rest : goal.decreases-loop-rest
decreases-loop-rest l = length l.rest
