use Rattle.std.proofs.Common.{length}
use Rattle.vga_mistakes.proofs.call.check_call.Given as goal

abbrev pub decreases-loop-word : goal.decreases-loop-word
decreases-loop-word l = length l.left.left.now
