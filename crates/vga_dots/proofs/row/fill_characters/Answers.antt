use Rattle.vga_dots.proofs.RowLemmas.{characters_more}
use Rattle.vga_dots.proofs.row.fill_characters.Goals as goal

pub loop-x-preserved : goal.loop-x-preserved
loop-x-preserved g c = characters_more g.row.CW c.loop-x.x (λ x i. c.args.colour) c.args.row.now c.loop-x.row c.put_one_colour_character.new.row c.loop-x.invariant
    c.put_one_colour_character.ensures
