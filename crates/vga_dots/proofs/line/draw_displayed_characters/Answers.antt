use Rattle.std.proofs.Common.{◌≡◌, sym, ◌∙◌, arith}
use Rattle.vga_dots.specs.SourceDot.{panning_shift}
use Rattle.vga_dots.proofs.LineLemmas.{from_first, line_unpanned, narrow, eight_wide}
use Rattle.vga_dots.proofs.line.draw_displayed_characters.Goals as goal

pub draw_characters-requires-clause-eight : goal.draw_characters-requires-clause-eight
draw_characters-requires-clause-eight g c = eight_wide c.args.display.now.host g.row.CW c.requires.width

pub draw_characters-requires-clause-width : goal.draw_characters-requires-clause-width
draw_characters-requires-clause-width g c = narrow c.args.display.now.host g.row.CW c.requires.width

pub returns-then-panning_shift-eq0 : goal.returns-then-panning_shift-eq0
returns-then-panning_shift-eq0 g c =
    let d = c.args.display.now in
    let unmoved : c.panning_shift-panning_shift.result ≡ 0 = omega arith in
    let none : panning_shift d.host d.crtc d.attr ≡ 0 = sym c.panning_shift-panning_shift.ensures.value ∙ unmoved in
    line_unpanned g.row.CW d c.requires.width c.args.count c.args.row.now c.draw_characters.new.row none (from_first _ _ _ _ _ c.draw_characters.ensures)
