use Rattle.std.proofs.Common.{◌∙◌, ◌++◌, arith}
use Rattle.vga_c.proofs.ChecksumLemmas.{none_left, one_added, reduced}
use Rattle.vga_c.proofs.checksum.add_bytes_to_sums.Goals as goal

pub loop-i-init : goal.loop-i-init
loop-i-init c = (
  λ rest. reduced c.args.sum c.args.sums (c.args.bytes.now ++ rest) c.requires.sum c.requires.sums,
  (omega arith, omega arith),
)

pub overflow_add-sum : goal.overflow_add-sum
overflow_add-sum c = omega arith

pub overflow_add-sums : goal.overflow_add-sums
overflow_add-sums c = omega arith

pub loop-i-preserved : goal.loop-i-preserved
loop-i-preserved c = (
  λ rest. c.loop-i.invariant.0 rest ∙ one_added c.args.bytes.now rest c.loop-i.i c.loop-i.sum c.loop-i.sums c.loop-i-test.true,
  (omega arith, omega arith),
)

pub returns-clause-rest : goal.returns-clause-rest
returns-clause-rest c = λ rest. c.loop-i.invariant.0 rest ∙ none_left c.args.bytes.now rest c.loop-i.i c.loop-i.sum c.loop-i.sums (omega (arith, c.loop-i-test.false))
