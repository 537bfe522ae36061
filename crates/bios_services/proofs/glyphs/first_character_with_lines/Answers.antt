use Rattle.std.proofs.Common.{◌≡◌, ◌-◌, ◌∙◌, sym, ap, arith}
use Rattle.bios_services.specs.Glyphs.{glyph_has_lines, first_passing_number, first_character_with_lines}
use Rattle.bios_services.proofs.GlyphLemmas.{next_first, found_first}
use Rattle.bios_services.proofs.glyphs.first_character_with_lines.Goals as goal

pub returns-then-glyph_has_lines : goal.returns-then-glyph_has_lines
unfolding first_character_with_lines
returns-then-glyph_has_lines c =
    found_first (glyph_has_lines c.args.fonts.now c.args.height c.args.lines.now) c.loop-character.character c.args.n _ (omega arith) (sym c.glyph_has_lines.ensures
    ∙ c.if-glyph_has_lines.true) c.loop-character.invariant

pub loop-character-preserved : goal.loop-character-preserved
loop-character-preserved c =
    next_first (glyph_has_lines c.args.fonts.now c.args.height c.args.lines.now) c.loop-character.character c.args.n _ (omega arith) (sym c.glyph_has_lines.ensures
    ∙ c.if-glyph_has_lines.false) c.loop-character.invariant

pub returns : goal.returns
unfolding first_character_with_lines
returns c =
    let none : c.args.n - c.loop-character.character ≡ 0 = omega arith in
    sym (ap (λ k. first_passing_number (glyph_has_lines c.args.fonts.now c.args.height c.args.lines.now) k c.loop-character.character) none) ∙ c.loop-character.invariant
