use Rattle.std.proofs.Common.{arith, length}
use Rattle.vga_c.proofs.FixedLemmas.{all_zeros}
use Rattle.vga_c.proofs.fixed.clear.Goals as goal

pub returns : goal.returns
returns c = all_zeros c.loop-i.bytes (length c.args.bytes.now) c.loop-i.invariant.0 (λ k within. c.loop-i.invariant.1 k (omega (arith, within, c.loop-i-test.false)))
