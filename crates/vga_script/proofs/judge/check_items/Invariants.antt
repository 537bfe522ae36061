use Rattle.std.proofs.Common.{List, length}
use Rattle.vga_script.specs.Item.{Item}
use Rattle.vga_script.proofs.DecodeLemmas.{HasDecoded}
use Rattle.vga_script.proofs.judge.check_items.Given as goal

-- some items stand before the rest of a script
abbrev pub invariant-loop-rest : goal.invariant-loop-rest
invariant-loop-rest l = (items : List Item) × HasDecoded l.bytes l.version items l.so_far l.rest

abbrev pub decreases-loop-rest : goal.decreases-loop-rest
decreases-loop-rest l = length l.rest
