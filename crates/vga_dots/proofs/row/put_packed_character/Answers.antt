use Rattle.std.proofs.Common.{◌/◌, refl, []}
use Rattle.std.specs.Prelude.{slice_index_or}
use Rattle.vga_dots.proofs.RowLemmas.{first_more, all_put}
use Rattle.vga_dots.proofs.row.put_packed_character.Goals as goal

pub loop-i-preserved : goal.loop-i-preserved
loop-i-preserved g c =
    first_more g.row.CW c.loop-i.i c.args.at (λ i. slice_index_or c.args.pixels.now (i / 2) []) c.args.row.now c.loop-i.row c.put_padded_dot.new.row _
    c.loop-i.invariant c.put_padded_dot.ensures refl

pub returns : goal.returns
returns g c = all_put g.row.CW c.loop-i.i c.args.at _ c.args.row.now c.loop-i.row c.loop-i-test.false c.loop-i.invariant
