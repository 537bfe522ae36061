use Rattle.std.specs.Option.{option_copied}
use Rattle.vga_script.specs.Tokens.{rest_len_with_one_for_its_end}
use Rattle.vga_script.proofs.AssembleLemmas.{HasAppendedBody}
use Rattle.vga_script.proofs.assembling.append_repeat_body.Given as goal

-- the bytes of the steps of the lines so far stand at the end
abbrev pub invariant-loop-left : goal.invariant-loop-left
invariant-loop-left l = HasAppendedBody (option_copied l.initial.left) l.initial.out.items l.first l.len l.number (option_copied l.left) l.out.items

abbrev pub decreases-loop-left : goal.decreases-loop-left
decreases-loop-left l = rest_len_with_one_for_its_end (option_copied l.left)
