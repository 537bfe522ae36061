-- Each dot has the colour of the glyph's dots or of the others.
use Rattle.std.proofs.Common.{◌≡◌, ◌∙◌, ◌-◌, ◌+◌, ◌*◌, true, false, ap, subst, sym, arith, if◌then◌else◌}
use Rattle.vga_bits.specs.Bits.{is_set}
use Rattle.vga_planes.specs.Planes.{byte_at}
use Rattle.vga_attr.specs.Attr.{AttrState}
use Rattle.vga_attr.specs.Fields.{is_line_graphics}
use Rattle.vga_dots.specs.declared.text.Cell.{Cell}
use Rattle.vga_dots.specs.Text.{is_glyph_dot, glyph_row, cell_at}
use Rattle.vga_dots.specs.SourceDot.{fetch_address}
use Rattle.vga_dots.specs.Line.{colour_by_palette, dot_of_counter, colour_of_source_dot}
use Rattle.vga_dots.specs.EightDots.{AreEightDotsOfColour, changed_dots}
use Rattle.vga_dots.specs.Character.{cell_of, cursorless_nibble}
use Rattle.vga_dots.proofs.RowLemmas.{dots_alike}
use Rattle.vga_dots.proofs.CharacterLemmas.{cursorless_dot}
use Rattle.vga_dots.proofs.TextLineLemmas.{cursor_at, line_graphics}
use Rattle.vga_dots.proofs.character.TextCharacters.put.Goals as goal

pub put_cursor-requires-clause-cursor : goal.put_cursor-requires-clause-cursor
put_cursor-requires-clause-cursor g c =
    let d = c.args.display.now in
    cursor_at d.host d.crtc d.attr c.args.self.now.line c.requires.draws.line c.args.cell c.args.counter _ (omega arith) c.has_cursor_at.ensures ∙ c.if-has_cursor_at.true

pub glyph_dots-dots-requires : goal.glyph_dots-dots-requires
glyph_dots-dots-requires g c =
    let d = c.args.display.now in
    record {
      line = line_graphics d.host d.crtc d.attr c.args.self.now.line c.requires.draws.line c.args.cell
          ∙ ap (λ (x : AttrState). if is_line_graphics x then 0xC0 else 0x100) (sym c.attr.ensures);
    }

pub returns : goal.returns
returns g c =
    let d = c.args.display.now in
    let n = c.args.counter in
    let cell = c.args.cell in
    let look = c.args.look in
    let scan = d.crtc.beam.scan in
    let colour = colour_by_palette d.attr d.dac in
    let shown = cell_at d.host (fetch_address d.crtc.registers n) in
    let whole : cell_of look.attribute cell.character ≡ cell = λ j. cell_of (c.requires.attribute j) cell.character in
    let glyph = colour (cursorless_nibble d.crtc d.attr cell true) in
    let ground = colour (cursorless_nibble d.crtc d.attr cell false) in
    let is_glyph = subst (λ (x : Cell). AreEightDotsOfColour (changed_dots look.ground look.change) (colour (cursorless_nibble d.crtc d.attr x true))) whole (c.requires.look.dots.glyph cell.character) in
    let is_ground = subst (λ (x : Cell). AreEightDotsOfColour look.ground (colour (cursorless_nibble d.crtc d.attr x false))) whole (c.requires.look.dots.ground cell.character) in
    let byte : c.byte-byte.result ≡ glyph_row d.host cell scan =
    c.byte-byte.ensures ∙ ap (λ m. byte_at m 2 (look.glyphs + 32 * cell.character)) c.planes.ensures ∙ c.requires.look.glyphs cell.character
    ∙ ap (λ (x : Cell). glyph_row d.host x scan) whole in
    let no_cursor = cursor_at d.host d.crtc d.attr c.args.self.now.line c.requires.draws.line cell n _ (omega arith) c.has_cursor_at.ensures ∙ c.if-has_cursor_at.false in
    dots_alike g.row.CW c.args.at (λ i. if is_set c.glyph_dots-dots.result (8 - i) then glyph else ground) (λ i. colour_of_source_dot d (dot_of_counter n i))
    c.args.row.now c.put_glyph.new.row (c.put_glyph.ensures glyph ground is_glyph is_ground)
    (λ i l. cursorless_dot d n glyph ground (is_set c.glyph_dots-dots.result (8 - i)) i c.requires.draws.shows
    (ap (λ (x : Cell). colour (cursorless_nibble d.crtc d.attr x true)) c.requires.cell)
    (ap (λ (x : Cell). colour (cursorless_nibble d.crtc d.attr x false)) c.requires.cell) no_cursor
    (c.glyph_dots-dots.ensures.dots i (omega (arith, l, c.requires.width))
    ∙ ap (λ (x : AttrState). is_glyph_dot x cell.character c.byte-byte.result i) c.attr.ensures
    ∙ ap (λ row. is_glyph_dot d.attr cell.character row i) byte
    ∙ ap (λ (x : Cell). is_glyph_dot d.attr x.character (glyph_row d.host x scan) i) c.requires.cell))
