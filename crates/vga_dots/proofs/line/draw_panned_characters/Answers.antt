use Rattle.std.proofs.Common.{◌+◌, arith}
use Rattle.std.proofs.lemmas.Nat.{mul-le}
use Rattle.vga_dots.proofs.LineLemmas.{from_first, line_panned, narrow, eight_wide}
use Rattle.vga_dots.proofs.line.draw_panned_characters.Goals as goal

pub draw_characters-requires-clause-eight : goal.draw_characters-requires-clause-eight
draw_characters-requires-clause-eight g c = eight_wide c.args.display.now.host g.row.CW c.requires.width

pub draw_characters-requires-clause-width : goal.draw_characters-requires-clause-width
draw_characters-requires-clause-width g c = narrow c.args.display.now.host g.row.CW c.requires.width

pub draw_characters-requires-clause-room : goal.draw_characters-requires-clause-room
draw_characters-requires-clause-room g c =
    let few = narrow c.args.display.now.host g.row.CW c.requires.width in
    omega (arith, mul-le (c.args.count + 1) g.row.CW 257 9 (omega (arith, c.requires.count)) (omega (arith, few)))

pub copy_dots-requires-clause-there : goal.copy_dots-requires-clause-there
copy_dots-requires-clause-there g c =
    let few = narrow c.args.display.now.host g.row.CW c.requires.width in
    omega (arith, c.requires.few, mul-le c.args.count g.row.CW 256 9 c.requires.count (omega (arith, few)))

pub returns : goal.returns
returns g c =
    let some = eight_wide c.args.display.now.host g.row.CW c.requires.width in
    line_panned g.row.CW c.args.display.now c.requires.width c.args.count c.args.panning_shift _ c.draw_characters.new.row c.args.row.now c.copy_dots.new.row
    c.requires.shift (omega (arith, c.requires.few, some)) (from_first _ _ _ _ _ c.draw_characters.ensures) c.copy_dots.ensures
