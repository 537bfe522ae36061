use Rattle.std.specs.Option.{option_copied}
use Rattle.vga_script.specs.Tokens.{rest_len_with_one_for_its_end}
use Rattle.vga_script.proofs.AssembleLemmas.{HasAssembled}
use Rattle.vga_script.proofs.assembling.assemble_items.Given as goal

-- the bytes are those of the items of the lines so far
abbrev pub invariant-loop-left : goal.invariant-loop-left
invariant-loop-left l = HasAssembled l.text l.version l.so_far l.number (option_copied l.left) l.out.items

abbrev pub decreases-loop-left : goal.decreases-loop-left
decreases-loop-left l = rest_len_with_one_for_its_end (option_copied l.left)
