-- A part of one colour.
use Rattle.std.proofs.Common.{sym, ap, ◌∙◌}
use Rattle.vga_host.specs.Sequencer.{is_screen_off}
use Rattle.vga_attr.specs.Fields.{is_palette_shown, overscan}
use Rattle.vga_dac.specs.Dac.{DacState}
use Rattle.vga_dots.specs.Line.{masked_colour}
use Rattle.vga_dots.proofs.CharacterLemmas.{off_colour, hidden_colour}
use Rattle.vga_dots.proofs.LineLemmas.{part_filled}
use Rattle.vga_dots.proofs.line.draw_next_dots_of_line.Goals as goal

pub returns-then-is_screen_off : goal.returns-then-is_screen_off
returns-then-is_screen_off g c =
    let d = c.args.display.now in
    let off = sym (c.is_screen_off.ensures ∙ ap is_screen_off c.host.ensures) ∙ c.if-is_screen_off.true in
    part_filled g.row.CW d c.requires.width c.args.count _ c.args.row.now c.fill_characters.new.row c.fill_characters.ensures (λ s. off_colour d s off)

pub returns-then-not-is_palette_shown : goal.returns-then-not-is_palette_shown
returns-then-not-is_palette_shown g c =
    let d = c.args.display.now in
    let off = sym (c.is_screen_off.ensures ∙ ap is_screen_off c.host.ensures) ∙ c.if-is_screen_off.false in
    let shown = sym (c.is_palette_shown.ensures ∙ ap is_palette_shown c.attr.ensures) ∙ c.if-not-is_palette_shown.true in
    part_filled g.row.CW d c.requires.width c.args.count _ c.args.row.now c.fill_characters-then-not-is_palette_shown.new.row c.fill_characters-then-not-is_palette_shown.ensures
    (λ s. c.masked_colour.ensures ∙ ap (λ (x : DacState). masked_colour x c.overscan.result) c.dac.ensures
    ∙ ap (masked_colour d.dac) (c.overscan.ensures ∙ ap overscan c.attr-then-not-is_palette_shown.ensures) ∙ hidden_colour d s off shown)
