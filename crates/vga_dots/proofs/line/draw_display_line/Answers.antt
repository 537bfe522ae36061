-- A line of one colour, or of what memory shows.
use Rattle.std.proofs.Common.{◌≡◌, sym, ap, subst, ◌∙◌}
use Rattle.vga_host.specs.Sequencer.{is_screen_off}
use Rattle.vga_crtc.specs.Crtc.{CrtcState}
use Rattle.vga_attr.specs.Fields.{is_palette_shown, overscan}
use Rattle.vga_dac.specs.Dac.{DacState}
use Rattle.vga_dots.specs.Line.{masked_colour, shown_characters, IsLineDrawn}
use Rattle.vga_dots.proofs.CharacterLemmas.{off_colour, hidden_colour}
use Rattle.vga_dots.proofs.LineLemmas.{line_filled, narrow}
use Rattle.vga_dots.proofs.line.draw_display_line.Goals as goal

pub fill_characters-requires-clause-width : goal.fill_characters-requires-clause-width
fill_characters-requires-clause-width g c = narrow c.args.display.now.host g.row.CW c.requires.width

pub returns-then-is_screen_off : goal.returns-then-is_screen_off
returns-then-is_screen_off g c =
    let d = c.args.display.now in
    let row = c.fill_characters.new.row in
    let n = c.shown_characters-count.result in
    let count : n ≡ shown_characters d.crtc.registers = c.shown_characters-count.ensures.value
    ∙ ap shown_characters (c.fields.ensures ∙ ap (λ (x : CrtcState). x.registers) c.crtc.ensures) in
    subst (λ m. IsLineDrawn g.row.CW m d c.args.row.now row) count
    (line_filled g.row.CW d c.requires.width n _ c.args.row.now row c.fill_characters.ensures (λ s.
    off_colour d s (sym (c.is_screen_off.ensures ∙ ap is_screen_off c.host.ensures) ∙ c.if-is_screen_off.true)))

pub returns-then-not-is_palette_shown : goal.returns-then-not-is_palette_shown
returns-then-not-is_palette_shown g c =
    let d = c.args.display.now in
    let row = c.fill_characters-then-not-is_palette_shown.new.row in
    let n = c.shown_characters-count.result in
    let count : n ≡ shown_characters d.crtc.registers = c.shown_characters-count.ensures.value
    ∙ ap shown_characters (c.fields.ensures ∙ ap (λ (x : CrtcState). x.registers) c.crtc.ensures) in
    let off = sym (c.is_screen_off.ensures ∙ ap is_screen_off c.host.ensures) ∙ c.if-is_screen_off.false in
    let shown = sym (c.is_palette_shown.ensures ∙ ap is_palette_shown c.attr.ensures) ∙ c.if-not-is_palette_shown.true in
    subst (λ m. IsLineDrawn g.row.CW m d c.args.row.now row) count
    (line_filled g.row.CW d c.requires.width n _ c.args.row.now row c.fill_characters-then-not-is_palette_shown.ensures
    (λ s. c.masked_colour.ensures ∙ ap (λ (x : DacState). masked_colour x c.overscan.result) c.dac.ensures
    ∙ ap (masked_colour d.dac) (c.overscan.ensures ∙ ap overscan c.attr-then-not-is_palette_shown.ensures) ∙ hidden_colour d s off shown))
