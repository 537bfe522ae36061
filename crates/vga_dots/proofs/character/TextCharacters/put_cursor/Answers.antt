-- Each dot has the foreground.
use Rattle.std.proofs.Common.{◌∙◌, ◌-◌, ℕ, true, ap, refl, subst, sym, if◌then◌else◌}
use Rattle.vga_bits.specs.Bits.{is_set, field}
use Rattle.vga_dots.specs.declared.text.Cell.{Cell}
use Rattle.vga_dots.specs.Text.{background, cell_at}
use Rattle.vga_dots.specs.SourceDot.{fetch_address}
use Rattle.vga_dots.specs.Line.{colour_by_palette, dot_of_counter, colour_of_source_dot}
use Rattle.vga_dots.specs.EightDots.{AreEightDotsOfColour}
use Rattle.vga_dots.proofs.EightDotsLemmas.{unchanged}
use Rattle.vga_dots.proofs.RowLemmas.{dots_alike}
use Rattle.vga_dots.proofs.CharacterLemmas.{by_cursor, low, same_either, text_dot}
use Rattle.vga_dots.proofs.character.TextCharacters.put_cursor.Goals as goal

pub returns : goal.returns
returns g c =
    let d = c.args.display.now in
    let n = c.args.counter in
    let colour = colour_by_palette d.attr d.dac in
    let shown = cell_at d.host (fetch_address d.crtc.registers n) in
    let fore = colour (field c.args.cell.attribute 3 0) in
    let is_fore = subst (λ (m : ℕ). AreEightDotsOfColour c.text_colour-fore.result (colour m)) (low c.args.cell.attribute) c.text_colour-fore.ensures in
    dots_alike g.row.CW c.args.at (λ i. if is_set 0x1FF (8 - i) then fore else fore) (λ i. colour_of_source_dot d (dot_of_counter n i)) c.args.row.now c.put_glyph.new.row
    (c.put_glyph.ensures fore fore (unchanged c.text_colour-fore.result fore is_fore) is_fore)
    (λ i l. same_either (is_set 0x1FF (8 - i)) fore
    ∙ text_dot d n fore (colour (background d.attr shown)) true i c.requires.draws.shows (ap (λ (x : Cell). colour (field x.attribute 3 0)) c.requires.cell) refl
    (sym (by_cursor d.host d.crtc d.attr shown n i c.requires.cursor)))
