use Rattle.vga_dots.proofs.EightDotsLemmas.{one_put}
use Rattle.vga_dots.proofs.eight_dots.put_ninth_dot.Goals as goal

pub returns : goal.returns
returns c = λ colour is. one_put c.args.first colour c.args.at c.args.row.now c.put_dot.new.row is c.put_dot.ensures
