use Rattle.std.proofs.Common.{refl}
use Rattle.vga_dots.proofs.RowLemmas.{dots_more}
use Rattle.vga_dots.proofs.row.put_one_colour_character.Goals as goal

pub loop-i-preserved : goal.loop-i-preserved
loop-i-preserved g c = dots_more c.loop-i.i c.args.at (λ i. c.args.colour) c.args.row.now c.loop-i.row c.put_dot.new.row _ c.loop-i.invariant c.put_dot.ensures
    refl
