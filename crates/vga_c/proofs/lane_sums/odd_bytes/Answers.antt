use Rattle.std.proofs.Common.{◌∙◌}
use Rattle.vga_c.proofs.LaneLemmas.{byte_of_shifted}
use Rattle.vga_c.proofs.lane_sums.odd_bytes.Goals as goal

pub returns : goal.returns
returns c = λ k l. c.even_bytes.ensures k l ∙ byte_of_shifted c.args.word k l
