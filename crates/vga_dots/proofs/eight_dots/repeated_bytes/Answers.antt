use Rattle.vga_dots.proofs.EightDotsLemmas.{repeated_bytes}
use Rattle.vga_dots.proofs.eight_dots.repeated_bytes.Goals as goal

pub returns : goal.returns
returns c = λ p l. repeated_bytes c.args.first c.args.second c.args.third p c.ranges.first.fits c.ranges.second.fits c.ranges.third.fits l
