use Rattle.std.proofs.Common.{arith}
use Rattle.vga_c.proofs.LaneLemmas.{within_sums}
use Rattle.vga_c.proofs.lane_sums.LaneSums.sum_of_sums.Goals as goal

pub overflow_sub-result : goal.overflow_sub-result
overflow_sub-result c =
    let less = within_sums 16 c.args.self c.requires in
    omega (
      arith,
      less,
      c.lane_of.ensures,
      c.lane_of-2.ensures,
      c.lane_of-3.ensures,
      c.lane_of-4.ensures,
      c.lane_of-5.ensures,
      c.lane_of-6.ensures,
      c.lane_of-7.ensures,
      c.sum_of_word.ensures,
      c.sum_of_word-2.ensures,
    )
