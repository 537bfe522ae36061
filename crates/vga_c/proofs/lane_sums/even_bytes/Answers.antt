use Rattle.vga_c.proofs.LaneLemmas.{even_byte_alone}
use Rattle.vga_c.proofs.lane_sums.even_bytes.Goals as goal

pub returns : goal.returns
returns c = λ k l. even_byte_alone c.args.word k l
