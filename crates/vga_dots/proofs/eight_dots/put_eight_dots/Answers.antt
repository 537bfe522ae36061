use Rattle.vga_dots.specs.EightDots.{changed_dots}
use Rattle.vga_dots.proofs.EightDotsLemmas.{eight_put}
use Rattle.vga_dots.proofs.eight_dots.put_eight_dots.Goals as goal

pub returns : goal.returns
returns c = λ g b is_glyph is_ground. eight_put c.args.lit c.args.at c.first_bytes_of_glyph-first.result c.middle_bytes_of_glyph-middle.result c.last_bytes_of_glyph-last.result (changed_dots c.args.ground c.args.change) c.args.ground g b
    c.args.row.now c.write_eight_bytes.new.row c.write_eight_bytes-2.new.row c.write_eight_bytes-3.new.row is_glyph is_ground c.first_bytes_of_glyph-first.ensures c.middle_bytes_of_glyph-middle.ensures c.last_bytes_of_glyph-last.ensures
    c.write_eight_bytes.ensures c.write_eight_bytes-2.ensures c.write_eight_bytes-3.ensures
