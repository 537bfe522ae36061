use Rattle.vga_dots.proofs.EightDotsLemmas.{changed_to_others}
use Rattle.vga_dots.proofs.eight_dots.EightDots.changed_bits.Goals as goal

pub returns : goal.returns
returns c = changed_to_others c.args.self c.args.other
