-- Eight dots are the bits of the row, and the ninth is below them.
use Rattle.std.proofs.Common.{arith}
use Rattle.vga_dots.proofs.CharacterLemmas.{glyph_bits}
use Rattle.vga_dots.proofs.TextLineLemmas.{ninth_dot}
use Rattle.vga_dots.proofs.character.glyph_dots.Goals as goal

pub returns-clause-dots : goal.returns-clause-dots
returns-clause-dots c = λ i l.
    let a = c.args.attr.now in
    let character = c.args.character in
    let row = c.args.row in
    let last = ninth_dot a c.args.line.now.nine_dot_block character row _ (omega arith) c.requires.line c.ninth_dot.ensures.value in
    glyph_bits a character row _ _ i c.ninth_dot.ensures.small (omega arith) last l
