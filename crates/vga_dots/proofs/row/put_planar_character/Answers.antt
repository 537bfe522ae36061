use Rattle.std.proofs.Common.{◌-◌, ap, [], if◌then◌else◌}
use Rattle.std.specs.Prelude.{nat_lt, slice_index_or}
use Rattle.vga_dots.specs.Row.{plane_bits_in_word}
use Rattle.vga_dots.proofs.RowLemmas.{first_more, all_put}
use Rattle.vga_dots.proofs.row.put_planar_character.Goals as goal

pub loop-i-preserved : goal.loop-i-preserved
loop-i-preserved g c =
    first_more g.row.CW c.loop-i.i c.args.at (λ i. slice_index_or c.args.table.now (if nat_lt i 8 then plane_bits_in_word c.args.word (7 - i) else 0) []) c.args.row.now
    c.loop-i.row c.put_padded_dot.new.row _ c.loop-i.invariant c.put_padded_dot.ensures
    (ap (λ n. slice_index_or c.args.table.now n []) c.dot_from_planes.ensures.value)

pub returns : goal.returns
returns g c = all_put g.row.CW c.loop-i.i c.args.at _ c.args.row.now c.loop-i.row c.loop-i-test.false c.loop-i.invariant
