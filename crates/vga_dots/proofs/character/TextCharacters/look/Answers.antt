-- The dots are those of its cells, and so are the glyphs.
use Rattle.std.proofs.Common.{◌+◌, ◌*◌, ℕ, ap}
use Rattle.vga_bits.specs.Bits.{is_set}
use Rattle.vga_dots.specs.Character.{cell_of}
use Rattle.vga_dots.proofs.TextLineLemmas.{row_of_glyph, glyphs_bound}
use Rattle.vga_dots.proofs.character.TextCharacters.look.Goals as goal

pub returns-clause-look : goal.returns-clause-look
returns-clause-look c =
    let d = c.args.display.now in
    let line = c.args.self.now.line in
    let attribute = c.args.attribute in
    record {
      dots = c.dots_of_cells.ensures.dots;
      glyphs = λ character. row_of_glyph d.host d.crtc d.attr line c.requires.text.line (cell_of attribute character) _
          (ap (λ (g : ℕ). g + 32 * character) c.row_address_of_first_glyph.ensures);
      bound = glyphs_bound (is_set attribute 3) line.map_a line.map_b _ c.requires.text.glyphs.map_a c.requires.text.glyphs.map_b c.row_address_of_first_glyph.ensures;
    }
