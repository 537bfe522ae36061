use Rattle.vga_dots.proofs.EightDotsLemmas.{dots_made}
use Rattle.vga_dots.proofs.eight_dots.EightDots.of_colour.Goals as goal

pub returns : goal.returns
returns c = dots_made c.args.colour _ _ _ c.repeated_bytes.ensures c.repeated_bytes-2.ensures c.repeated_bytes-3.ensures
