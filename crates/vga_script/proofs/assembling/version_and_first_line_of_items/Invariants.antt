use Rattle.std.specs.Option.{option_copied}
use Rattle.vga_script.specs.Tokens.{rest_len_with_one_for_its_end}
use Rattle.vga_script.proofs.AssembleLemmas.{HasBlank}
use Rattle.vga_script.proofs.assembling.version_and_first_line_of_items.Given as goal

-- the lines so far have no word
abbrev pub invariant-loop-left : goal.invariant-loop-left
invariant-loop-left l = HasBlank l.text l.number (option_copied l.left)

abbrev pub decreases-loop-left : goal.decreases-loop-left
decreases-loop-left l = rest_len_with_one_for_its_end (option_copied l.left)
